-- `define_word`: the control pass stores a word of the next operation or row.
use Rattle.std.proofs.Common.{◌≡◌, ◌≢◌, ℕ, ◌<◌, ◌≤◌, suc, List, length, set, sym, ◌⊎◌, ap, ◌∙◌, inl, inr, ⊎_elim, arith}
use Rattle.std.proofs.Common.{refl, subst}
use Rattle.std.proofs.Math.Decide.{ℕ_discrete}
use Rattle.fish_rule.proofs.basics.Context.{Key, Rule, View, World, get_elem?, none, some}
use Rattle.fish_catalog.specs.declared.listed.Listed.{Listed}
use Rattle.fish_rule.proofs.classes.BoundariesStay.{boundaries_later, lists_later, waits_later}
use Rattle.fish_rule.proofs.classes.ControlStores.{its, store_endures, store_read, store_still, stores}
use Rattle.fish_rule.proofs.basics.Worlds.{put-else, put-here, world-registry}
use Rattle.fish_rule.proofs.basics.Lasts.{Lasts}
use Rattle.fish_rule.specs.RegistrySteps.{CanDefineWord, IsNextWord, after_define_word}
use Rattle.fish_rule.specs.Epochs.{IsUnmade}
use Rattle.fish_rule.specs.Registry.{Endures, IsLasting, definitions_at, op_at, row_at, version_in}
use Rattle.fish_rule.specs.World.{put, world}
use Rattle.fish_rule.proofs.classes.Allowed.{Allows, Ruled, Sat, allowed, stands, step, there, unmade_within}
use Rattle.fish_rule.specs.Told.{told_define_word}

module _ {k : Key} {w : World} (r : Rule k w) (id : ℕ) {v : View} (at : get_elem? w.views id ≡ some v)
    (control : v.lane ≡ 1) where
  module _ (p x : ℕ) (can : CanDefineWord v p x) where
    -- nothing is made of the word
    pub unmade_here : IsUnmade k w.registry p
    unmade_here = by can.next
      where
        size : length (definitions_at k w.registry (version_in w.registry)) ≡ length v.rows
        size = ap (λ (z : List Listed). length z) (its r id at control).definitions

        by : IsNextWord v p x → IsUnmade k w.registry p
        by (inl h) = (let e = (its r id at control).version in let a = h.0 in let q = h.1 in
            inl (suc v.learned.version, (omega arith), (omega arith), h.1))
        by (inr h) = (let e = size in inr (length v.rows, h.0, (omega arith), h.1, h.2, h.3))

    -- it is after the epochs
    pub far_here : 20 ≤ p
    far_here = ⊎_elim (λ m. let q = m.3 in let a = m.1 in omega arith) (λ m. let q = m.5 in omega arith) unmade_here

    -- and no word that lasts
    made_else : (q : ℕ) → IsLasting k w.registry q → q ≢ p
    made_else q (inl h) e = (let far = far_here in omega arith)
    made_else q (inr (inl h)) e = ⊎_elim
        (λ m. let a = h.2 in let b = h.3 in let c = m.1 in let d = m.3 in omega arith)
        (λ m. let a = h.2 in let b = h.3 in let c = m.5 in let f = r.registry.versions.few in omega arith) unmade_here
    made_else q (inr (inr (inl h))) e = ⊎_elim
        (λ m. let a = h.5 in let b = m.2 in let c = m.3 in omega arith)
        (λ m. let a = h.2 in let b = h.4 in let c = h.5 in let d = m.2 in let f = m.5 in omega arith) unmade_here
    made_else q (inr (inr (inr h))) e = ⊎_elim
        (λ m. let a = h.0.4 in let b = m.2 in let c = m.3 in omega arith)
        (λ m. h.1 (ap w.registry h.0.4 ∙ r.registry.boundaries.unmade h.0.0 h.0.1
        (let a = h.0.4 in let b = h.0.3 in let c = m.2 in let d = m.5 in omega arith) h.0.2 h.0.3)) unmade_here

    -- the version stays
    define_still : version_in (put w.registry p x) ≡ version_in w.registry
    define_still = store_still r id at control p x far_here made_else

    -- and so does what lasts
    define_endures : Endures k w.registry (put w.registry p x)
    define_endures = store_endures r id at control p x far_here made_else

    -- a boundary that it may be is none, as it was
    boundary_same : (n i : ℕ) → n < 256 → i < 2 → put w.registry p x (row_at n i) ≡ w.registry (row_at n i)
    boundary_same n i few bound = pick (ℕ_discrete (row_at n i) p)
      where
        pick : Dec (row_at n i ≡ p) → put w.registry p x (row_at n i) ≡ w.registry (row_at n i)
        pick (no ne) = put-else w.registry p x (row_at n i) ne
        pick (yes e) = ⊎_elim
            (λ (h : (v.learned.version < 512) × (p ≡ op_at (suc v.learned.version))). let a = h.0 in let b = h.1 in
            absurd (omega arith))
            (λ (h : (j : ℕ) × (length v.rows < 256) × (j < 39) × (p ≡ row_at (length v.rows) j) × ((2 ≤ j) ⊎ (x ≡ 0))).
            let same = h.3 in
            let small = h.2 in
            let size : length (definitions_at k w.registry (version_in w.registry)) ≡ length v.rows =
            ap (λ (z : List Listed). length z) (its r id at control).definitions in
            ⊎_elim (λ (far : 2 ≤ h.0). absurd (omega arith))
            (λ (zero_ : x ≡ 0). ap (put w.registry p x) e ∙ put-here w.registry p x ∙ zero_
            ∙ sym (r.registry.boundaries.unmade n i (omega arith) few bound)) h.4) can.next

    -- the view afterwards
    abbrev definer : View
    definer = after_define_word v p x

    -- a definition keeps the rule, and all that lasts
    pub define_word_lasts : Lasts r (record w { registry = put w.registry p x; views = set w.views id definer })
    define_word_lasts = stores r id at control p x far_here made_else v.round v.learned.words
        (store_read r id at control p x far_here made_else)
        (boundaries_later k w.registry _ define_endures w.count r.state r.state r.version_of define_still boundary_same
        (λ n i l few is above below. lists_later k w.registry _ define_endures n (r.state l)
        (r.registry.epochs.past l above below) (r.registry.boundaries.entered n i l few is above below))
        r.registry.versions r.registry.boundaries)
        (waits_later k w.registry _ define_endures w.count r.state r.state r.version_of v.lane
        (λ n few. boundary_same n 0 few (omega arith)) (λ l s above below reached h. h) v.round
        (r.registry.each id v at).waits)

-- a store of a word of the next operation or row
pub define_word_allowed : (given k : Key) → given ≡ k → (size id : ℕ) (me : Sat) (p x : ℕ) → me.0.about ≡ k
    → CanDefineWord me.0 p x → Allows (Ruled given) size id me p (λ _. x) (λ _. told_define_word (step size p x 0 none) me x)
define_word_allowed given k same size id me p x about can =
    allowed given k same size id me p (λ _. x) (λ _. told_define_word (step size p x 0 none) me x) (λ ws vs wide r at.
    let w : World = world k ws vs in
    let v' : View = after_define_word me.0 p x in
    let within = unmade_within k w p (unmade_here r id at can.control p x can) in
    let kept = (define_word_lasts r id at can.control p x can).0 in
    let moved = world-registry k ws vs (set vs id v') p x within.0 within.1 wide in (
      v',
      subst (Rule k) (sym moved) kept,
      record { view = refl; held = refl; stands = stands k _ id v' kept about (there vs id me.0 v' at) },
    ))
