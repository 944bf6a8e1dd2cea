-- What a claim leaves of the log's space: a region in flight after the old tail, and few claims past the log's end.
use Rattle.std.proofs.Common.{◌≡◌, ◌≢◌, ℕ, ◌+◌, ◌*◌, ◌<◌, ◌≤◌, suc, set, sym, refl, ap, ◌∙◌, subst, arith, Some, None}
use Rattle.std.proofs.Common.{Option}
use Rattle.std.proofs.Math.Decide.{ℕ_discrete, dec_lt}
use Rattle.fish_rule.proofs.basics.Context.{Final, Flight, Key, Rule, View, World, get_elem?, some}
use Rattle.atomic_table.proofs.Lists.{set_here}
use Rattle.fish_rule.proofs.basics.Lists.{each_set, has_own, no_flight, pairs_set, within_list}
use Rattle.fish_rule.proofs.classes.OtherViews.{flight_there}
use Rattle.fish_rule.proofs.classes.FactsStay.{finished_later, flight_later}
use Rattle.fish_rule.proofs.classes.ChainsStay.{links_set}
use Rattle.fish_rule.proofs.basics.Quotas.{quotas_lower}
use Rattle.fish_rule.proofs.basics.Worlds.{put-else, put-here}
use Rattle.fish_rule.specs.Chains.{LinksAt}
use Rattle.fish_rule.specs.Parts.{Flies, InFlight, Limit, MayOverflow, Regions, Space, quotas}
use Rattle.fish_rule.specs.SpaceSteps.{CanClaimLines, after_claim_lines, flight_at}
use Rattle.fish_rule.specs.Views.{Has, HasFlight, IsFlightOf, IsOver}
use Rattle.fish_rule.specs.World.{put}
use Rattle.fish_rule.proofs.basics.RegistryWords.{endures_same}

module _ {k : Key} {w : World} (r : Rule k w) (id : ℕ) {v : View} (at : get_elem? w.views id ≡ some v) (m : ℕ)
    (can : CanClaimLines v) (some_lines : 0 < m) (few_lines : m ≤ 18625) where
  -- the view afterwards
  abbrev pub view' : View
  view' = after_claim_lines v m w.count w.line

  -- the world afterwards
  abbrev pub world' : World
  world' = record w { count = suc w.count; line = w.line + m; views = set w.views id view' }

  -- the region of the new number begins at the old tail and ends at the new one
  abbrev pub start' : ℕ → ℕ
  start' = put r.start (suc w.count) (w.line + m)

  -- the new number is this lane's
  abbrev pub lane_of' : ℕ → ℕ
  lane_of' = put r.lane_of w.count v.lane

  -- up to the old count nothing moves
  old_start : (n : ℕ) → n ≤ w.count → start' n ≡ r.start n
  old_start n h = put-else r.start (suc w.count) (w.line + m) n (λ e. omega arith)

  -- the new region begins at the old tail
  new_start : start' w.count ≡ w.line
  new_start = old_start w.count (omega arith) ∙ r.space.regions.last

  -- and ends at the new one
  new_end : start' (suc w.count) ≡ w.line + m
  new_end = put-here r.start (suc w.count) (w.line + m)

  -- older numbers are of the lanes that they were of
  old_lane : (n : ℕ) → n < w.count → lane_of' n ≡ r.lane_of n
  old_lane n h = put-else r.lane_of w.count v.lane n (λ e. omega arith)

  -- no entry was linked
  pub none_linked : (a c : ℕ) → LinksAt a c v.flight → LinksAt a c view'.flight
  none_linked a c h = absurd (subst (LinksAt a c) can.idle h)

  -- nothing that lasts has changed
  pub claim_final : Final k r.start start' r.lane_of lane_of' w world'
  claim_final = record {
    counts = omega arith;
    lines = omega arith;
    settles = omega arith;
    registered = endures_same k w.registry;
    heads = λ b. omega arith;
    links = links_set r id view' at none_linked;
    rises = λ b p h. omega arith;
    starts = old_start;
    lanes = old_lane;
    dirs = λ n h e. refl;
    bodies = λ n h e. refl;
    below = λ p from h. refl;
  }

  -- regions follow one another up to the new tail
  regions : Regions k (suc w.count) (w.line + m) start'
  regions = record {
    some = (let h = r.space.regions.some in omega arith);
    first = old_start k.number r.space.regions.some ∙ r.space.regions.first;
    last = new_end;
    grows = λ n above below. (pick n above below (ℕ_discrete n w.count)).0;
    small = λ n above below. (pick n above below (ℕ_discrete n w.count)).1;
  }
    where
      pick : (n : ℕ) → k.number ≤ n → n < suc w.count → Dec (n ≡ w.count) → (start' n < start' (suc n))
          × (start' (suc n) ≤ start' n + 18625)
      pick n above below (yes e) =
          let a : start' n ≡ w.line = ap start' e ∙ new_start in
          let b : start' (suc n) ≡ w.line + m = ap (λ (z : ℕ). start' (suc z)) e ∙ new_end in
          (omega arith, omega arith)
      pick n above below (no ne) =
          let less : n < w.count = omega arith in
          let a : start' n ≡ r.start n = old_start n (omega arith) in
          let b : start' (suc n) ≡ r.start (suc n) = old_start (suc n) less in
          let g = r.space.regions.grows n above less in
          let s = r.space.regions.small n above less in
          (omega arith, omega arith)

  -- the record just world'
  own_flight : InFlight k (suc w.count) w.dir w.log start' lane_of' v.lane (flight_at w.count w.line m)
  own_flight = record {
    above = r.space.regions.some;
    below = omega arith;
    line = new_start;
    lines = new_end;
    unpublished = r.space.dir_beyond w.count (omega arith);
    owner = put-here r.lane_of w.count v.lane;
    latest = λ n more less. absurd (omega arith);
    live = can.live;
    short = omega arith;
    written = λ i less plain. absurd (omega arith);
    unwritten = λ i more less. r.space.log_beyond (w.line * 4 + i) (omega arith);
    whole = λ h. absurd (omega arith);
    header = λ e. omega arith;
  }

  -- the records in flight with others, of which none has this lane
  others_fly : (j : ℕ) (u : View) → j ≢ id → get_elem? w.views j ≡ some u → (o : Option Flight)
      → Flies k w.count w.dir w.log r.start r.lane_of u.lane o → Flies k (suc w.count) w.dir w.log start' lane_of' u.lane o
  others_fly j u ne at_u None h = h
  others_fly j u ne at_u (Some g) h =
      flight_later claim_final u.lane g h h.unpublished (λ n more less same. ne (r.seats.apart j id u v v.lane at_u at
      (subst (Has u.lane u.out) (sym (lane n more less same)) (has_own w.views j u at_u h.live r.seats))
      (has_own w.views id v at can.live r.seats)))
      (λ i less. refl) h.whole
    where
      lane : (n : ℕ) → w.count ≤ n → n < suc w.count → lane_of' n ≡ u.lane → v.lane ≡ u.lane
      lane n more less same = (let e : n ≡ w.count = omega arith in
          sym (ap lane_of' e ∙ put-here r.lane_of w.count v.lane) ∙ same)

  -- a record that was in flight before has a number below the old count
  below_count : (lane n : ℕ) (o : Option Flight) → Flies k w.count w.dir w.log r.start r.lane_of lane o
      → IsFlightOf n o → n < w.count
  below_count lane n None h is = elim is [ ]
  below_count lane n (Some g) h is = subst (λ (z : ℕ). z < w.count) is h.below

  -- each number is published or in flight
  pub claim_space : Space k (suc w.count) (w.line + m) w.dir w.log (set w.views id view') start' lane_of'
  claim_space = record {
    regions = regions;
    finished = λ n above below set_. finished_later claim_final n
        (old n below set_) set_ (r.space.finished n above (old n below set_) set_);
    flying = λ n above below unset. fly n above below unset (ℕ_discrete n w.count);
    flights = each_set _ w.views id view'
        (λ j u ne at_u. others_fly j u ne at_u u.flight (r.space.flights j u at_u)) own_flight;
    alone = λ i j a b n at_i at_j p q. (pairs_set
        (λ i j a b. IsFlightOf n a.flight → IsFlightOf n b.flight → i ≡ j) w.views id view'
        (λ i p q. refl)
        (λ j u ne at_u. (
          (λ p q. clash n u (r.space.flights j u at_u) p q),
          (λ p q. clash n u (r.space.flights j u at_u) q p),
        ))
        (λ i j a b _ _ at_a at_b p q. r.space.alone i j a b n at_a at_b p q) i j a b at_i at_j) p q;
    dir_below = r.space.dir_below;
    dir_beyond = λ n more. r.space.dir_beyond n (omega arith);
    log_beyond = λ p more. r.space.log_beyond p (omega arith);
  }
    where
      old : (n : ℕ) → n < suc w.count → w.dir n ≢ 0 → n < w.count
      old n below set_ = pick (dec_lt n w.count)
        where
          pick : Dec (n < w.count) → n < w.count
          pick (yes h) = h
          pick (no h) = absurd (set_ (r.space.dir_beyond n (omega arith)))

      fly : (n : ℕ) → k.number ≤ n → n < suc w.count → w.dir n ≡ 0 → Dec (n ≡ w.count)
          → HasFlight n (set w.views id view')
      fly n above below unset (yes e) = record {
        seat = id;
        view = view';
        at = set_here w.views id view' (within_list w.views id v at);
        flies = sym e;
      }
      fly n above below unset (no ne) = flight_there w.views id v view' at n
          (λ h. absurd (no_flight n v.flight can.idle h)) (r.space.flying n above (omega arith) unset)

      clash : {i j : ℕ} (n : ℕ) (u : View) → Flies k w.count w.dir w.log r.start r.lane_of u.lane u.flight
          → w.count ≡ n → IsFlightOf n u.flight → i ≡ j
      clash n u h e is = (let less = below_count u.lane n u.flight h is in absurd (omega arith))

  -- before the claim the pass might overflow
  could : MayOverflow k.end v.shut v.flight
  could = (can.ready, λ h. subst (IsOver k.end) can.idle h)

  -- the limit where the claim ends within the log, or is no first one past its end
  pub claim_limit : Dec (k.end < w.line + m)
      → (quota' : ℕ → ℕ) × Limit k (suc w.count) (set w.views id view') start' quota'
  claim_limit (yes over) = (
    put r.quota v.lane 0,
    record {
      first = r.limit.first;
      above = r.limit.above;
      within = (let h = r.limit.within in omega arith);
      fits = subst (λ (z : ℕ). z ≤ k.end) (sym (old_start r.limit.first r.limit.within)) r.limit.fits;
      past = λ n more below. past n more below (ℕ_discrete n w.count);
      few = (let few = r.limit.few in let within = r.limit.within in let less = spends in omega arith);
      may = each_set _ w.views id view' (λ j u ne at_u l has may. put-else r.quota v.lane 0 l
          (λ e. ne (r.seats.apart j id u v l at_u at has (subst (Has v.lane v.out) (sym e) mine)))
          ∙ r.limit.may j u at_u l has may)
          (λ l has may. absurd (may.1 over));
    },
  )
    where
      mine : Has v.lane v.out v.lane
      mine = has_own w.views id v at can.live r.seats

      spends : suc (quotas (put r.quota v.lane 0) 16) ≡ quotas r.quota 16
      spends = quotas_lower r.quota v.lane 16 can.live mine.1 (r.limit.may id v at v.lane mine could)

      past : (n : ℕ) → r.limit.first ≤ n → n < suc w.count → Dec (n ≡ w.count) → k.end < start' (suc n)
      past n more below (yes e) = subst (λ (z : ℕ). k.end < z) (sym (ap (λ (z : ℕ). start' (suc z)) e ∙ new_end)) over
      past n more below (no ne) = (let less : n < w.count = omega arith in
          subst (λ (z : ℕ). k.end < z) (sym (old_start (suc n) less)) (r.limit.past n more less))
  claim_limit (no within) = (
    r.quota,
    record {
      first = suc w.count;
      above = (let h = r.space.regions.some in omega arith);
      within = omega arith;
      fits = subst (λ (z : ℕ). z ≤ k.end) (sym new_end) (omega arith);
      past = λ n more below. absurd (omega arith);
      few = (let few = r.limit.few in omega arith);
      may = each_set _ w.views id view' (λ j u ne at_u. r.limit.may j u at_u)
          (λ l has may. r.limit.may id v at l has could);
    },
  )
