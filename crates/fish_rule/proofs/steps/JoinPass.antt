-- `join_pass` changes no word: a lane comes back, with its records and all that its pass knew.
use Rattle.std.proofs.Common.{◌≡◌, ◌≢◌, ℕ, List, set, sym, refl, ap, ◌∙◌, subst, inl, ⊎_elim, arith}
use Rattle.fish_rule.proofs.basics.Context.{Among, Final, Key, Learned, Rule, View, World, get_elem?, some}
use Rattle.atomic_table.proofs.Lists.{set_else}
use Rattle.fish_rule.proofs.basics.Lasts.{Kept}
use Rattle.fish_rule.proofs.basics.Lists.{all_append, among_either, among_left, among_right, each_set, no_flight}
use Rattle.fish_rule.proofs.basics.Lists.{pairs_set}
use Rattle.fish_rule.proofs.classes.OtherViews.{final_still, limit_views, alone_kept, flight_there}
use Rattle.fish_rule.proofs.basics.Lanes.{both_has, first_shut_none, has_back, has_both, has_lane, has_none, has_one}
use Rattle.fish_rule.proofs.basics.Lanes.{not_over, shut_either}
use Rattle.fish_rule.proofs.classes.ChainsStay.{chains_views, linking_from, linking_own, linking_to, links_views}
use Rattle.fish_rule.proofs.classes.FactsStay.{chained_later}
use Rattle.fish_rule.specs.Chains.{Chained, IsLinking, LinksAt}
use Rattle.fish_rule.specs.Parts.{MayOverflow}
use Rattle.fish_rule.specs.Facts.{AreOpens, Facts, IsFound, IsFactKnown, IsRecorded, Owns}
use Rattle.fish_rule.specs.SeatSteps.{CanJoinPass, join_both, spent, without}
use Rattle.fish_rule.specs.Views.{Each, Has}
use Rattle.fish_rule.specs.Gaps.{IsGap, IsLabel}
use Rattle.fish_rule.proofs.basics.RegistryWords.{endures_same}
use Rattle.fish_rule.specs.Boundaries.{IsUnended}
use Rattle.fish_rule.specs.Epochs.{RegistryHolds, Stays}
use Rattle.fish_rule.specs.Registry.{IsRegistered}
use Rattle.fish_rule.specs.declared.view.Epoch.TheVariants.{Out}
use Rattle.atomic_table.specs.Table.{Joins}
use Rattle.fish_rule.specs.Table.{Ruled}

module _ {k : Key} {w : World} (r : Rule k w) (id other : ℕ) {v u : View} (at : get_elem? w.views id ≡ some v)
    (ne : other ≢ id) (at_u : get_elem? w.views other ≡ some u) (can : CanJoinPass v u) where
  -- the control pass's view after it
  abbrev both : View
  both = join_both v u

  -- all views, before the other is spent
  abbrev taken : List View
  taken = set w.views id both

  -- the other is still there
  at_other : get_elem? taken other ≡ some u
  at_other = set_else w.views id other both ne ∙ at_u

  -- the other has its lane
  theirs : Has u.lane u.out u.lane
  theirs = has_lane u.lane u.out can.above (r.seats.few other u at_u)

  -- no two passes have one lane
  join_apart : (i j : ℕ) (a b : View) (x : ℕ) → get_elem? (set taken other spent) i ≡ some a
      → get_elem? (set taken other spent) j ≡ some b
      → Has a.lane a.out x → Has b.lane b.out x → i ≡ j
  join_apart i j a b x at_i at_j p q = pairs_set
      (λ i j a b. Has a.lane a.out x → Has b.lane b.out x → i ≡ j) taken other spent (λ i p q. refl)
      (λ j b not at_b. ((λ p q. absurd (has_none x p)), (λ p q. absurd (has_none x q))))
      (λ i j a b not_i not_j at_a at_b. pairs_set
      (λ i j a b. i ≢ other → j ≢ other → Has a.lane a.out x → Has b.lane b.out x → i ≡ j) w.views id both
      (λ i _ _ p q. refl)
      (λ j b not at_b. ((λ _ away p q. mine j b at_b away p q), (λ away _ p q. sym (mine j b at_b away q p))))
      (λ i j a b _ _ at_a at_b _ _ p q. r.seats.apart i j a b x at_a at_b p q) i j a b at_a at_b not_i not_j)
      i j a b at_i at_j p q
    where
      mine : (j : ℕ) (b : View) → get_elem? w.views j ≡ some b → j ≢ other → Has both.lane both.out x
          → Has b.lane b.out x → id ≡ j
      mine j b at_b away p q = ⊎_elim
          (λ (h : Has v.lane v.out x). r.seats.apart id j v b x at at_b h q)
          (λ (e : x ≡ u.lane).
          absurd (away (sym (r.seats.apart other j u b x at_u at_b (subst (Has u.lane u.out) (sym e) theirs) q))))
          (both_has v.lane u.lane v.out x p)

  -- the lanes that may still overflow are those that might before
  join_may : (x : ℕ) → Has both.lane both.out x → MayOverflow k.end both.shut both.flight → r.quota x ≡ 1
  join_may x has may =
      let open_both = first_shut_none v.shut u.shut may.0 in
      ⊎_elim
      (λ (h : Has v.lane v.out x). r.limit.may id v at x h (open_both.0, may.1))
      (λ (e : x ≡ u.lane). subst (λ (z : ℕ). r.quota z ≡ 1) (sym e)
      (r.limit.may other u at_u u.lane theirs (open_both.1, not_over k.end u.flight can.idle)))
      (both_has v.lane u.lane v.out x has)

  -- the records of both are those of both's lanes
  join_owns : Owns k w.count w.dir r.lane_of both.lane both.out both.own
  join_owns =
      let mine = r.own id v at in
      let other_owns = r.own other u at_u in
      let few = r.seats.few other u at_u in
      record {
        sound = λ o m. ⊎_elim
            (λ (m : Among o v.own). let s = mine.sound o m in (has_both v.lane u.lane v.out o.lane s.0, s.1))
            (λ (m : Among o u.own). let s = other_owns.sound o m in (
              subst (Has v.lane (without u.lane v.out)) (sym (has_one u.lane u.out o.lane can.above s.0))
                  (has_back v.lane u.lane v.out can.control can.above few),
              s.1,
            ))
            (among_either o v.own u.own m);
        complete = λ o has stored. ⊎_elim
            (λ (h : Has v.lane v.out o.lane). among_left o v.own u.own (mine.complete o h stored))
            (λ (e : o.lane ≡ u.lane).
            among_right o v.own u.own (other_owns.complete o (subst (Has u.lane u.out) (sym e) theirs) stored))
            (both_has v.lane u.lane v.out o.lane has);
      }

  -- what either learned is so
  join_facts : Facts k w.count w.dir w.log r.start both.learned
  join_facts =
      let a = r.facts id v at in
      let b = r.facts other u at_u in
      record {
        counted = (let x = a.counted in let y = b.counted in omega arith);
        found = all_append (IsFound k w.count w.dir r.start) v.learned.found u.learned.found a.found b.found;
        known = all_append (IsFactKnown k w.count w.dir w.log r.start) v.learned.known u.learned.known a.known b.known;
        records = all_append
            (IsRecorded k w.count w.dir w.log r.start) v.learned.records u.learned.records a.records b.records;
        gaps = all_append (IsGap k w.count w.dir w.log r.start) v.learned.gaps u.learned.gaps a.gaps b.gaps;
        labels = all_append (IsLabel k w.count w.dir w.log r.start) v.learned.labels u.learned.labels a.labels b.labels;
      }

  -- what holds of both and of a spent view, and of each other view, holds of each
  each_join : (P : View → Type 0) → Each P w.views → P both → P spent → Each P (set taken other spent)
  each_join P all here none = each_set P taken other spent
      (λ j a not at_a. each_set P w.views id both (λ j a not at_a. all j a at_a) here j a at_a) none

  -- what is linked in flight stays so, and nothing else is
  links_join : (a c : ℕ) → IsLinking a c w.views → IsLinking a c (set taken other spent)
  links_join a c h = linking_to taken other u spent at_other a c (λ q. absurd (subst (LinksAt a c) can.idle q))
      (linking_to w.views id v both at a c (λ q. q) h)

  -- and none else is
  back_join : (a c : ℕ) → IsLinking a c (set taken other spent) → IsLinking a c w.views
  back_join a c h = linking_from w.views id v both at a c (λ q. linking_own w.views id v both at a c q)
      (linking_from taken other u spent at_other a c (λ q. elim q [ ]) h)

  -- nothing that lasts has changed
  join_final : Kept r (record w { views = set taken other spent })
  join_final = final_still r w.settled w.registry (set taken other spent) (omega arith)
      (endures_same k w.registry) (links_views r (set taken other spent) links_join)

  -- what is known of chains stays so, and what either knew is so
  join_chained : {x : Learned} → Chained k w.dir w.log w.views w.head x
      → Chained k w.dir w.log (set taken other spent) w.head x
  join_chained = chained_later join_final

  -- what both have learned of chains
  both_chained : Chained k w.dir w.log (set taken other spent) w.head both.learned
  both_chained =
      let a = join_chained (r.chained id v at) in
      let b = join_chained (r.chained other u at_u) in
      record {
        nodes = all_append _ v.learned.nodes u.learned.nodes a.nodes b.nodes;
        least_previous = all_append _ v.learned.least_previous u.learned.least_previous a.least_previous b.least_previous;
        least_heads = all_append _ v.learned.least_heads u.learned.least_heads a.least_heads b.least_heads;
      }

  -- the lane that came back is out, and what either knew of the registry is so
  both_stays : Stays k w.count w.registry r.state r.version_of both
  both_stays =
      let a = r.registry.each id v at in
      let b = r.registry.each other u at_u in
      let control = can.control in
      let above = can.above in
      let few = r.seats.few other u at_u in
      let back : r.state u.lane ≡ Out = (b.tied u.lane (omega arith, few, inl refl)).0 refl ∙ can.outside in
      record {
        tied = λ x has. ⊎_elim (λ (old : Has v.lane v.out x). a.tied x old)
            (λ (e : x ≡ u.lane). ((λ same. absurd (omega arith)), (λ _. ap r.state e ∙ back)))
            (both_has v.lane u.lane v.out x has);
        from = λ live. (let p = a.from (omega arith) in omega arith);
        since = a.since;
        reached = (let p = a.reached in let q = b.reached in omega arith);
        read = all_append (IsRegistered k w.registry) v.learned.words u.learned.words a.read b.read;
        unended = all_append (IsUnended k w.count w.registry r.version_of) v.learned.unended u.learned.unended a.unended
            b.unended;
        control = λ e. let m = a.control e in
            record {
              version = (let p = m.version in let q = b.reached in omega arith);
              definitions = m.definitions;
              owned = m.owned;
            };
        waits = a.waits;
      }

  -- the registry's part afterwards
  join_registry : RegistryHolds k w.count w.registry r.state r.version_of (set taken other spent)
  join_registry = record {
    epochs = r.registry.epochs;
    versions = r.registry.versions;
    boundaries = r.registry.boundaries;
    each = each_join _ r.registry.each both_stays (record {
      tied = λ x has. absurd (has_none x has);
      from = λ live. absurd (omega arith);
      since = tt;
      reached = omega arith;
      read = tt;
      unended = tt;
      control = λ e. absurd (omega arith);
      waits = tt;
    });
    flights = each_join _ r.registry.flights (r.registry.flights id v at) tt;
  }

  -- a join keeps the rule
  pub join_kept : Rule k (record w { views = set (set w.views id (join_both v u)) other spent })
  join_kept = record {
    start = r.start;
    lane_of = r.lane_of;
    version_of = r.version_of;
    quota = r.quota;
    state = r.state;
    key_fits = r.key_fits;
    about = each_join _ r.about (r.about id v at) (λ h. absurd (omega arith));
    seats = record { apart = join_apart; few = each_join _ r.seats.few (r.seats.few id v at) (omega arith) };
    tails = each_join _ r.tails (λ control all. tt) (λ control. absurd (omega arith));
    space = record {
      regions = r.space.regions;
      finished = r.space.finished;
      flying = λ n above below unset. flight_there taken other u spent at_other n (no_flight n u.flight can.idle)
          (flight_there w.views id v both at n (λ h. h) (r.space.flying n above below unset));
      flights = each_join _ r.space.flights (r.space.flights id v at) tt;
      alone = alone_kept taken other u spent at_other (λ n h. elim h [ ])
          (alone_kept w.views id v both at (λ n h. h) r.space.alone);
      dir_below = r.space.dir_below;
      dir_beyond = r.space.dir_beyond;
      log_beyond = r.space.log_beyond;
    };
    limit = limit_views r.limit
        (each_join _ r.limit.may join_may (λ x has. absurd (has_none x has)));
    settling = r.settling;
    chains = chains_views r (set taken other spent) links_join back_join;
    chained = each_join _ (λ j x at_x. join_chained (r.chained j x at_x)) both_chained
        (record { nodes = tt; least_previous = tt; least_heads = tt });
    floors = each_join _ r.floors (let a = r.floors id v at in let b = r.floors other u at_u in omega arith)
        (omega arith);
    own = each_join _ r.own join_owns (record {
      sound = λ o m. elim m [ ];
      complete = λ o has. absurd (has_none o.lane has);
    });
    facts = each_join _ r.facts join_facts (record {
      counted = omega arith;
      found = tt;
      known = tt;
      records = tt;
      gaps = tt;
      labels = tt;
    });
    registry = join_registry;
    keyed = r.keyed;
    shuts = each_join _ r.shuts (shut_either k w.count w.dir r.start v.shut u.shut (r.shuts id v at)
        (r.shuts other u at_u)) tt;
    opens = each_join _ r.opens (all_append (AreOpens k w.count w.dir r.lane_of) v.learned.opens u.learned.opens
        (r.opens id v at) (r.opens other u at_u)) tt;
  }

  -- and all that lasts
  pub join_lasts : Final k r.start join_kept.start r.lane_of join_kept.lane_of w
      (record w { views = set (set w.views id (join_both v u)) other spent })
  unfolding join_kept
  join_lasts = join_final

-- and a join wherever the two views do
pub joins : (k : Key) (id : ℕ) (v : View) (other : ℕ) (u : View) → CanJoinPass v u
    → Joins (Ruled k) id v other u (join_both v u) spent
joins k id v other u can s ruled at away at_u = record {
  wide = ruled.wide;
  rule = join_kept ruled.rule id other at away
      (sym (set_else s.views id other (join_both v u) away) ∙ at_u) can;
}
