-- `store_to`: the control pass stores where the index of an active row ends.
use Rattle.std.proofs.Common.{◌≡◌, ℕ, ◌<◌, ◌≤◌, suc, length, set, sym, refl, ap, ◌∙◌, inr, arith, List, ◌-◌, subst}
use Rattle.std.proofs.lemmas.Option.{slice_get_within}
use Rattle.fish_rule.proofs.basics.Context.{Key, Rule, View, World, get_elem?, none, some}
use Rattle.fish_catalog.specs.declared.listed.Listed.{Listed}
use Rattle.fish_rule.proofs.classes.BoundariesStay.{waits_later}
use Rattle.fish_rule.proofs.classes.ControlStores.{its, stores}
use Rattle.fish_rule.proofs.basics.Lasts.{Lasts}
use Rattle.fish_rule.specs.BoundarySteps.{CanStoreTo, after_store_to}
use Rattle.fish_rule.specs.Registry.{definitions_at, row_at, version_in}
use Rattle.fish_rule.specs.World.{put, world}
use Rattle.fish_rule.proofs.classes.BoundaryStores.{place_far, place_away, set_endures, other_bound, set_boundaries, set_read}
use Rattle.fish_rule.proofs.classes.Allowed.{Allows, Ruled, Sat, Told, allowed, stands, step, there}
use Rattle.fish_rule.proofs.basics.Worlds.{world-registry}
use Rattle.fish_rule.specs.Told.{told_store_to}

module _ {k : Key} {w : World} (r : Rule k w) (id : ℕ) {v : View} (at : get_elem? w.views id ≡ some v) where
  module _ (row n : ℕ) (can : CanStoreTo v row n) where
    -- a boundary is as the control pass knows it
    known_bound : (i : ℕ) → i < 2
        → w.registry (row_at row i) ≡ Rattle.fish_rule.specs.Registry.control_word v.control_words (row_at row i)
    known_bound i small = (its r id at can.control).owned (row_at row i) (inr (row, i, can.few, small, refl))

    -- the row is made
    row_made : row < length (definitions_at k w.registry (version_in w.registry))
    row_made =
        let size : length (definitions_at k w.registry (version_in w.registry)) ≡ length v.rows =
        ap (λ (z : List Listed). length z) (its r id at can.control).definitions in
        let there = slice_get_within v.rows row can.on.listed can.on.there in
        omega arith

    -- the index has no end yet
    none_yet : w.registry (row_at row 1) ≡ 0
    none_yet = known_bound 1 (omega arith) ∙ can.endless

    -- to set where an index ends keeps the rule, and all that lasts
    pub store_to_lasts : Lasts r (record w {
      registry = put w.registry (row_at row 1) (suc n);
      views = set w.views id (after_store_to v row n);
    })
    store_to_lasts =
        let counted = (r.facts id v at).counted in
        let live : 1 ≤ v.lane = (let m = can.control in omega arith) in
        let within = can.within in
        let above : k.number ≤ n = subst (λ (z : Key). z.number ≤ n) (r.about id v at live) can.above in
        let stays = r.registry.each id v at in
        stores r id at can.control (row_at row 1) (suc n)
        (place_far r id at can.control row 1 n can.few (omega arith) none_yet)
        (place_away r id at can.control row 1 n can.few (omega arith) none_yet) v.round _
        (set_read r id at can.control row 1 n can.few (omega arith) none_yet)
        (set_boundaries r id at can.control row 1 n can.few (omega arith) none_yet above (omega arith) row_made
        (λ e z. can.began (sym (known_bound 0 (omega arith)) ∙ z))
        (λ e from is. can.after from (sym (known_bound 0 (omega arith)) ∙ is)) (λ e. absurd (omega arith))
        (λ e. absurd (omega arith))
        (λ e m above before below. r.registry.boundaries.running row (r.version_of m) can.few none_yet
        (r.registry.versions.upto m above below)))
        (waits_later k w.registry _
        (set_endures r id at can.control row 1 n can.few (omega arith) none_yet) w.count r.state r.state r.version_of
        v.lane (λ m small. other_bound r id at can.control row 1 n can.few (omega arith) none_yet m 0 (omega arith)
        (λ e. let a = e.1 in omega arith)) (λ l s above below reached h. h) v.round stays.waits)

-- a store of where one ends
pub store_to_allowed : (given k : Key) → given ≡ k → (size id : ℕ) (me : Sat) (row n i x : ℕ) → me.0.about ≡ k
    → CanStoreTo me.0 row n → i ≡ row_at row 1 → x ≡ suc n
    → Allows (Ruled given) size id me i (λ _. x) (λ _. told_store_to (step size i x 0 none) me x)
store_to_allowed given k same size id me row n i x about can is value =
    allowed given k same size id me i (λ _. x) (λ _. told_store_to (step size i x 0 none) me x) (λ ws vs wide r at.
    let w : World = world k ws vs in
    let v' : View = after_store_to me.0 row n in
    let few = can.few in
    let kept : Rule k (record w { registry = put w.registry i x; views = set vs id v' }) =
    subst (λ (z : ℕ × ℕ). Rule k (record w { registry = put w.registry z.0 z.1; views = set vs id v' }))
    (λ j. (sym is j, sym value j)) (store_to_lasts r id at row n can).0 in
    let moved = world-registry k ws vs (set vs id v') i x (omega arith) (omega arith) wide in
    let back : x - 1 ≡ n = omega arith in (
      v',
      subst (Rule k) (sym moved) kept,
      subst (λ (z : ℕ × ℕ). Told me (Rattle.fish_rule.specs.BoundarySteps.after_store_boundary me.0 z.0 z.1 me.0.round) (v', me.1))
          (λ j. (sym is j, sym back j))
          (record { view = refl; held = refl; stands = stands k _ id v' kept about (there vs id me.0 v' at) }),
    ))
