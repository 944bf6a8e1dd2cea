-- `split_pass` changes no word: a lane goes to a new pass, with its records and all that the control pass knew.
use Rattle.std.proofs.Common.{◌∙◌, ap, ◌≡◌, ℕ, List, [], ◌∷◌, ◌++◌, set, sym, refl, subst, inr, ⊎_elim, arith, length}
use Rattle.fish_rule.proofs.basics.Context.{Final, Key, Learned, Rule, View, World, get_elem?, some}
use Rattle.atomic_table.proofs.Lists.{at_longer, at_snoc, at_last, set_here}
use Rattle.fish_rule.proofs.basics.Lasts.{Kept}
use Rattle.fish_rule.proofs.basics.Lists.{each_set, each_snoc, pairs_set, within_list}
use Rattle.fish_rule.proofs.classes.OtherViews.{final_still, limit_views, alone_kept, flight_there}
use Rattle.fish_rule.proofs.basics.Lanes.{flight_longer, has_lane, has_left, has_one, left_has, not_over}
use Rattle.fish_rule.proofs.basics.Lanes.{of_lane_complete, of_lane_sound, off_lane_complete, off_lane_sound}
use Rattle.fish_rule.proofs.basics.Lanes.{pairs_snoc}
use Rattle.fish_rule.proofs.classes.ChainsStay.{chains_views, linking_from, linking_own, linking_to, links_views}
use Rattle.fish_rule.proofs.classes.FactsStay.{chained_later}
use Rattle.fish_rule.specs.Chains.{Chained, IsLinking, LinksAt}
use Rattle.fish_rule.specs.Parts.{Limit, Seats}
use Rattle.fish_rule.specs.Facts.{Owns}
use Rattle.fish_rule.specs.SeatSteps.{CanSplitPass, of_lane, split_left, split_right}
use Rattle.fish_rule.specs.Views.{Each, Has, IsFlightOf}
use Rattle.fish_rule.proofs.basics.RegistryWords.{endures_same}
use Rattle.fish_rule.specs.Epochs.{RegistryHolds, Stays}
use Rattle.fish_rule.specs.declared.view.Epoch.TheVariants.{Out}
use Rattle.atomic_table.specs.Table.{Splits}
use Rattle.fish_rule.specs.Table.{Ruled, IsOfMoment}

module _ {k : Key} {w : World} (r : Rule k w) (id : ℕ) {v : View} (at : get_elem? w.views id ≡ some v) (l : ℕ)
    (can : CanSplitPass v l) where
  -- the control pass's view after it
  abbrev left : View
  left = split_left l v

  -- the new pass's
  abbrev right : View
  right = split_right l v

  -- all views but the new one
  abbrev cut : List View
  cut = set w.views id left

  -- what holds of the two new views, and of each other view, holds of each
  each_cut : (P : View → Type 0) → Each P w.views → P left → P right → Each P (cut ++ right ∷ [])
  each_cut P all one new = each_snoc P cut right (each_set P w.views id left (λ j u ne at_u. all j u at_u) one) new

  -- before it the control pass has lane l
  had : Has v.lane v.out l
  had = (let a = can.above in (omega arith, can.below, inr (can.control, can.here)))

  -- after it no pass but the new one has it
  gone : (j : ℕ) (u : View) → get_elem? cut j ≡ some u → ¬ Has u.lane u.out l
  gone = each_set (λ u. ¬ Has u.lane u.out l) w.views id left
      (λ j u ne at_u has. ne (r.seats.apart j id u v l at_u at has had))
      (λ has. (left_has v.lane l v.out l can.control can.above has).1 refl)

  -- no two passes have one lane
  split_seats : Seats (cut ++ right ∷ [])
  split_seats = record {
    apart = λ i j a b x at_i at_j p q. pairs_snoc (λ u. Has u.lane u.out x) cut right
        (λ j a at_a p q. gone j a at_a (subst (Has a.lane a.out) (has_one l [] x can.above q) p))
        (λ i j a b at_a at_b. pairs_set (λ i j a b. Has a.lane a.out x → Has b.lane b.out x
        → i ≡ j) w.views id left (λ i p q. refl)
        (λ j u ne at_u. (
          (λ p q. r.seats.apart id j v u x at at_u (back x p) q),
          (λ p q. r.seats.apart j id u v x at_u at p (back x q)),
        ))
        (λ i j a b _ _ at_a at_b p q. r.seats.apart i j a b x at_a at_b p q) i j a b at_a at_b)
        i j a b at_i at_j p q;
    few = each_cut _ r.seats.few (r.seats.few id v at) can.below;
  }
    where
      back : (x : ℕ) → Has v.lane (l ∷ v.out) x → Has v.lane v.out x
      back x h = (left_has v.lane l v.out x can.control can.above h).0

  -- the lanes that may still overflow are those that might before
  split_limit : Limit k w.count (cut ++ right ∷ []) r.start r.quota
  split_limit = limit_views r.limit (each_cut _ r.limit.may
      (λ x has may. r.limit.may id v at x (left_has v.lane l v.out x can.control can.above has).0 may)
      (λ x has may. subst (λ (z : ℕ). r.quota z ≡ 1) (sym (has_one l [] x can.above has))
      (r.limit.may id v at l had (may.0, not_over k.end v.flight can.idle))))

  -- the control pass keeps the records but for those of lane l
  left_owns : Owns k w.count w.dir r.lane_of left.lane left.out left.own
  left_owns =
      let h = r.own id v at in
      record {
        sound = λ o m.
            let s = off_lane_sound l o v.own m in
            let t = h.sound o s.0 in
            (has_left v.lane l v.out o.lane t.0 s.1, t.1);
        complete = λ o has stored.
            let s = left_has v.lane l v.out o.lane can.control can.above has in
            off_lane_complete l o v.own (h.complete o s.0 stored) s.1;
      }

  -- the new pass has just these
  right_owns : Owns k w.count w.dir r.lane_of l [] (of_lane l v.own)
  right_owns =
      let h = r.own id v at in
      record {
        sound = λ o m.
            let s = of_lane_sound l o v.own m in
            (subst (Has l []) (sym s.1) (has_lane l [] can.above can.below), (h.sound o s.0).1);
        complete = λ o has stored.
            let e = has_one l [] o.lane can.above has in
            of_lane_complete l o v.own (h.complete o (subst (Has v.lane v.out) (sym e) had) stored) e;
      }

  -- what is linked in flight stays so, and nothing else is
  links_cut : (a c : ℕ) → IsLinking a c w.views → IsLinking a c (cut ++ right ∷ [])
  links_cut a c h = (let g = linking_to w.views id v left at a c (λ q. q) h in
      record { seat = g.seat; view = g.view; at = at_longer cut (right ∷ []) g.seat g.view g.at; links = g.links })

  -- and none else is
  back_cut : (a c : ℕ) → IsLinking a c (cut ++ right ∷ []) → IsLinking a c w.views
  back_cut a c h = ⊎_elim
      (λ (e : get_elem? cut h.seat ≡ some h.view). linking_from w.views id v left at a c
      (λ q. linking_own w.views id v left at a c q)
      (record { seat = h.seat; view = h.view; at = e; links = h.links }))
      (λ (e : right ≡ h.view). absurd (subst (λ (z : View). LinksAt a c z.flight) (sym e) h.links))
      (at_snoc cut right h.view h.seat h.at)

  -- nothing that lasts has changed
  split_final : Kept r (record w { views = cut ++ right ∷ [] })
  split_final = final_still r w.settled w.registry (cut ++ right ∷ []) (omega arith)
      (endures_same k w.registry) (links_views r (cut ++ right ∷ []) links_cut)

  -- what is known of chains stays so
  split_chained : {x : Learned} → Chained k w.dir w.log w.views w.head x
      → Chained k w.dir w.log (cut ++ right ∷ []) w.head x
  split_chained = chained_later split_final

  -- the control pass is as far entered as before, and the lane that it gave out is out
  left_stays : Stays k w.count w.registry r.state r.version_of left
  left_stays = (let h = r.registry.each id v at in record {
    tied = λ x has. h.tied x (left_has v.lane l v.out x can.control can.above has).0;
    from = h.from;
    since = h.since;
    reached = h.reached;
    read = h.read;
    unended = h.unended;
    control = h.control;
    waits = h.waits;
  })

  -- and what the new pass knows
  right_stays : Stays k w.count w.registry r.state r.version_of right
  right_stays =
      let h = r.registry.each id v at in
      let control = can.control in
      let above = can.above in
      let here : Has v.lane v.out l = (omega arith, can.below, inr (can.control, can.here)) in
      let state : r.state l ≡ Out = (h.tied l here).1 (λ e. omega arith) in
      record {
        tied = λ x has. let e : x ≡ l = has_one l [] x can.above has in
            ((λ _. ap r.state e ∙ state), (λ ne. absurd (ne e)));
        from = λ _. h.from (omega arith);
        since = tt;
        reached = h.reached;
        read = h.read;
        unended = h.unended;
        control = λ e. absurd (omega arith);
        waits = tt;
      }

  -- the registry's part afterwards
  split_registry : RegistryHolds k w.count w.registry r.state r.version_of (cut ++ right ∷ [])
  split_registry = record {
    epochs = r.registry.epochs;
    versions = r.registry.versions;
    boundaries = r.registry.boundaries;
    each = each_cut _ r.registry.each left_stays right_stays;
    flights = each_cut _ r.registry.flights (r.registry.flights id v at) tt;
  }

  -- a split keeps the rule
  pub split_kept : Rule k (record w { views = set w.views id (split_left l v) ++ split_right l v ∷ [] })
  split_kept = record {
    start = r.start;
    lane_of = r.lane_of;
    version_of = r.version_of;
    quota = r.quota;
    state = r.state;
    key_fits = r.key_fits;
    about = each_cut _ r.about (r.about id v at) (λ _. let m = can.control in r.about id v at (omega arith));
    seats = split_seats;
    tails = each_cut _ r.tails (λ control all. cc) (λ control all. let a = can.above in absurd (omega arith));
    space = record {
      regions = r.space.regions;
      finished = r.space.finished;
      flying = λ n above below unset.
          flight_longer cut right n (flight_there w.views id v left at n (λ h. h) (r.space.flying n above below unset));
      flights = each_cut _ r.space.flights (r.space.flights id v at) tt;
      alone = λ i j a b n. pairs_snoc (λ u. IsFlightOf n u.flight) cut right (λ j a at_a p q. q)
          (λ i j a b. alone_kept w.views id v left at (λ n h. h) r.space.alone i j a b n) i j a b;
      dir_below = r.space.dir_below;
      dir_beyond = r.space.dir_beyond;
      log_beyond = r.space.log_beyond;
    };
    limit = split_limit;
    settling = r.settling;
    chains = chains_views r (cut ++ right ∷ []) links_cut back_cut;
    chained = each_cut _ (λ j u at_u. split_chained (r.chained j u at_u))
        (split_chained (r.chained id v at)) (split_chained (r.chained id v at));
    floors = each_cut _ r.floors (r.floors id v at) (r.floors id v at);
    own = each_cut _ r.own left_owns right_owns;
    facts = each_cut _ r.facts (r.facts id v at) (r.facts id v at);
    registry = split_registry;
    keyed = r.keyed;
    shuts = each_cut _ r.shuts (r.shuts id v at) (r.shuts id v at);
    opens = each_cut _ r.opens (r.opens id v at) (r.opens id v at);
  }

  -- ---- join

  -- and all that lasts
  pub split_lasts : Final k r.start split_kept.start r.lane_of split_kept.lane_of w
      (record w { views = set w.views id (split_left l v) ++ split_right l v ∷ [] })
  unfolding split_kept
  split_lasts = split_final

-- the table allows a split wherever the control pass's view does
pub splits : (k : Key) (id : ℕ) (v : View) (l : ℕ) → CanSplitPass v l
    → Splits (Ruled k) id v (split_left l v) (split_right l v)
splits k id v l can s ruled at = record {
  wide = ruled.wide;
  rule = split_kept ruled.rule id at l can;
}

-- the moment after a split
split_moment : (v : View) (s : IsOfMoment v) (l : ℕ) → CanSplitPass v l
    → Rule v.about (record s.moment { views = set s.moment.views s.seat (split_left l v) ++ split_right l v ∷ [] })
split_moment v s l can = split_kept s.rule s.seat s.at l can

-- at that moment the control pass has its new view
pub left_stands : (v : View) (l : ℕ) → IsOfMoment v → CanSplitPass v l → IsOfMoment (split_left l v)
left_stands v l s can = record {
  moment = record s.moment { views = set s.moment.views s.seat (split_left l v) ++ split_right l v ∷ [] };
  rule = split_moment v s l can;
  seat = s.seat;
  at = at_longer (set s.moment.views s.seat (split_left l v)) (split_right l v ∷ []) s.seat (split_left l v)
      (set_here s.moment.views s.seat (split_left l v) (within_list s.moment.views s.seat v s.at));
}

-- and the new pass its own
pub right_stands : (v : View) (l : ℕ) → IsOfMoment v → CanSplitPass v l → IsOfMoment (split_right l v)
right_stands v l s can = record {
  moment = record s.moment { views = set s.moment.views s.seat (split_left l v) ++ split_right l v ∷ [] };
  rule = split_moment v s l can;
  seat = length (set s.moment.views s.seat (split_left l v));
  at = at_last (set s.moment.views s.seat (split_left l v)) (split_right l v) _ refl;
}
