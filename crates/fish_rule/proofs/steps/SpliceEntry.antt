-- `splice_entry`: a compare-and-exchange on the first word of a linked entry that is above the own one.
use Rattle.fish_rule.proofs.steps.SpliceKept.{splice_entry_lasts}
use Rattle.std.proofs.Common.{◌≡◌, ◌≢◌, ℕ, ◌+◌, ◌-◌, ◌*◌, ◌<◌, get_or, set, sym, refl, ap, ◌∙◌, subst, ⊎_elim}
use Rattle.std.proofs.Common.{arith, Some, eqb}
use Rattle.std.proofs.Math.Decide.{ℕ_discrete}
use Rattle.fish_rule.proofs.basics.Context.{Flight, Key, Rule, View, World, get_elem?, none, some}
use prog.Atomic.{either}
use Rattle.atomic_table.proofs.Lists.{exchanged}
use Rattle.fish_layout.proofs.Clearing.{choose_first, choose_second}
use Rattle.fish_layout.specs.Cleared.{choose}
use Rattle.fish_rule.proofs.classes.Allowed.{Allows, Ruled, Sat, Told, allowed, loaded_words, stands, step, there}
use Rattle.fish_rule.proofs.basics.Flights.{one_flight}
use Rattle.fish_rule.proofs.basics.FirstHeads.{first_low, flight_from}
use Rattle.fish_rule.proofs.steps.LoadPrevious.{previous_less, previous_rises, node_linked, place_within}
use Rattle.fish_rule.proofs.steps.LoadPrevious.{load_previous_lasts}
use Rattle.fish_rule.proofs.classes.LinkOne.{either_way}
use Rattle.fish_rule.proofs.steps.SwingHead.{own_unlinked}
use Rattle.fish_rule.proofs.basics.Worlds.{area-in, world-log}
use Rattle.fish_rule.specs.Chains.{Linked}
use Rattle.fish_rule.specs.ChainSteps.{CanAimEntry, CanSpliceEntry, HasNode, PreviousRises, after_splice_entry}
use Rattle.fish_rule.specs.ChainSteps.{own_place, previous_seen, spliced}
use Rattle.fish_rule.specs.SpaceSteps.{ticked}
use Rattle.fish_rule.specs.Parts.{first_head}
use Rattle.fish_rule.specs.Told.{ToldSpliceEntry, place_at}
use Rattle.fish_rule.specs.World.{log_at, log_size, world}
use Rattle.fish_rule.specs.Flying.{region_in}

-- a splice leaves the key
about_splice : (v : View) {k : Key} (f : Flight) (b q x y : ℕ) → v.about ≡ k → (after_splice_entry v f b q x y).about ≡ k
about_splice v {k} f b q x y about = by (ℕ_discrete y x)
  where
    by : (d : Dec (y ≡ x)) → (choose d (spliced v f b q) (previous_seen v b q y (ticked v.clock))).about ≡ k
    by (yes e) = about
    by (no n) = about

-- the own place is no first word before
previous_other : {k : Key} {w : World} (r : Rule k w) (id : ℕ) {v : View} (at : get_elem? w.views id ≡ some v)
    (f : Flight) (can : CanAimEntry v f) (b q : ℕ) → Linked k w.dir w.log w.views b q → w.log q ≢ own_place f
previous_other {k} {w} r id {v} at f can b q higher e = ⊎_elim (λ (z : w.log q ≡ first_head k b).
    let low_ = first_low r b in let behind = flight_from r id v at f can.flying in absurd (omega arith))
    (λ (l : Linked k w.dir w.log w.views b (w.log q)). own_unlinked r id at f can b (w.log q) l e)
    ((r.chains b).next q higher).is

-- the table allows it
pub splice_entry_allowed : (given k : Key) → given ≡ k → (size id : ℕ) (me : Sat) (f : Flight) (b q x i new : ℕ)
    → me.0.about ≡ k → CanSpliceEntry me.0 f b q x → i ≡ log_at k + (q - k.line * 4) → new ≡ own_place f
    → Allows (Ruled given) size id me i (λ n. either (eqb n x) new n) (ToldSpliceEntry (step size i x new none) me)
splice_entry_allowed given k same size id me f b q x i new about can is own_is =
    allowed given k same size id me i (λ n. either (eqb n x) new n) (ToldSpliceEntry (step size i x new none) me)
    (λ ws vs wide r at.
    let w : World = world k ws vs in
    let y : ℕ = get_or ws i 0 in
    let linked = node_linked r id at b q can.node in
    let within = place_within r b q linked in
    let word : y ≡ w.log q = ap (λ (z : ℕ). get_or ws z 0) is
    ∙ sym (area-in ws (log_at k) (k.line * 4) (log_size k) q within.0 within.1) in
    let index : place_at me.0.about i ≡ q = ap (λ (z : Key). place_at z i) about ∙ (omega arith) in
    let v' : View = after_splice_entry me.0 f b q x y in
    let v_at = there vs id me.0 v' at in
    let rule : Rule k (world k (set ws i (either (eqb y x) new y)) (set vs id v')) =
    exchanged y x new (λ z. Rule k (world k (set ws i z) (set vs id v')))
    (λ e. let hit : v' ≡ spliced me.0 f b q =
    choose_first (ℕ_discrete y x) (spliced me.0 f b q) (previous_seen me.0 b q y (ticked me.0.clock)) e in
    subst (λ (z : ℕ × View). Rule k (world k (set ws i z.0) (set vs id z.1))) (λ j. (sym own_is j, sym hit j))
    (subst (Rule k) (sym (world-log k ws vs (set vs id (spliced me.0 f b q)) q i
    (own_place f) within.0 within.1 is wide)) (splice_entry_lasts r id at about f b q x can (sym word ∙ e)).0))
    (λ ne. let miss : v' ≡ previous_seen me.0 b q y (ticked me.0.clock) =
    choose_second (ℕ_discrete y x) (spliced me.0 f b q) (previous_seen me.0 b q y (ticked me.0.clock)) ne in
    subst (λ (z : View). Rule k (world k (set ws i y) (set vs id z))) (sym miss)
    (loaded_words k ws (set vs id (previous_seen me.0 b q y (ticked me.0.clock))) i
    (subst (λ (z : ℕ). Rule k (record w { views = set vs id (previous_seen me.0 b q z (ticked me.0.clock)) })) (sym word)
    (load_previous_lasts r id at b q can.node (ticked me.0.clock) about).0))) in
    let about' : v'.about ≡ k = about_splice me.0 f b q x y about in (
      v',
      rule,
      record {
        bucket = b;
        node = subst (HasNode me.0 b) (sym index) can.node;
        told = λ g flying.
            let e : f ≡ g = one_flight f g (sym can.aim.flying ∙ flying) in
            subst (λ (z : ℕ × Flight). Told me (after_splice_entry me.0 z.1 b z.0 x y) (v', me.1))
            (λ j. (sym index j, e j)) (record {
              view = refl;
              held = refl;
              stands = stands k _ id v' rule about' v_at;
            });
        rises = subst (λ (z : ℕ × ℕ). PreviousRises me.0 z.0 z.1) (λ j. (sym index j, sym word j))
            (previous_rises r id at b q can.node);
        less = subst (λ (z : ℕ × ℕ). z.0 < z.1) (λ j. (sym word j, sym index j))
            (previous_less r id at b q can.node);
        other = λ e. previous_other r id at f can.aim b q linked (sym word ∙ e ∙ own_is);
      },
    ))

module _ (v : View) (f : Flight) (b q h x : ℕ) where
  -- a splice
  pub splice_about : (after_splice_entry v f b q h x).about ≡ v.about
  splice_about = either_way (λ (z : View). z.about) v.about (ℕ_discrete x h) (spliced v f b q)
      (previous_seen v b q x (ticked v.clock)) refl refl

  -- and the lane
  pub splice_lane : (after_splice_entry v f b q h x).lane ≡ v.lane
  splice_lane = either_way (λ (z : View). z.lane) v.lane (ℕ_discrete x h) (spliced v f b q)
      (previous_seen v b q x (ticked v.clock)) refl refl

  -- and what shut the pass
  pub splice_shut : (after_splice_entry v f b q h x).shut ≡ v.shut
  splice_shut = either_way (λ (z : View). z.shut) v.shut (ℕ_discrete x h) (spliced v f b q)
      (previous_seen v b q x (ticked v.clock)) refl refl

  -- and the region in flight
  pub region_splice : v.flight ≡ Some f → region_in (after_splice_entry v f b q h x).flight ≡ region_in (Some f)
  region_splice flying = either_way (λ (z : View). region_in z.flight) (region_in (Some f)) (ℕ_discrete x h)
      (spliced v f b q) (previous_seen v b q x (ticked v.clock)) refl (ap region_in flying)
