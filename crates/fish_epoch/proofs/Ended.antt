-- The end of one definition, by its position.
use Rattle.std.proofs.Common.{◌≡◌, ℕ, ◌+◌, ◌<◌, ◌≤◌, zero, suc, List, [], ◌∷◌, length, set, get_or, sym, refl, ap, ◌∙◌}
use Rattle.std.proofs.Common.{arith, Some, slice_get}
use Rattle.std.proofs.Math.Decide.{ℕ_discrete}
use Rattle.fish_layout.proofs.Clearing.{choose_first, choose_second}
use Rattle.fish_catalog.specs.Listing.{IsListing, ended, ended_at}
use Rattle.fish_catalog.specs.declared.listed.Listed.{Listed}

-- the ids of the list are numbered from a first one on
abbrev AreFrom : ℕ → List Listed → Type 0
AreFrom n [] = Unit {0}
AreFrom n (l ∷ ls) = (l.id ≡ n) × AreFrom (suc n) ls

-- those of a listing are, from 0 on
are_from : (n : ℕ) (ls : List Listed) → ((k : ℕ) (l : Listed) → slice_get ls k ≡ Some l → l.id ≡ n + k) → AreFrom n ls
are_from n [] ids = tt
are_from n (l ∷ ls) ids = (
  (let e = ids 0 l refl in omega arith),
  are_from (suc n) ls (λ k m there. let e : m.id ≡ n + suc k = ids (suc k) m there in omega arith),
)

-- an id before them ends none
end_none : (id n : ℕ) (ls : List Listed) → id < n → AreFrom n ls → ended_at id ls ≡ ls
end_none id n [] less h = refl
end_none id n (l ∷ ls) less h =
    (λ j. choose_second (ℕ_discrete l.id id) (ended l) l (λ e. let q = h.0 in omega arith) j
    ∷ end_none id (suc n) ls (omega arith) h.1 j)

-- an id after them ends none
end_past : (k n : ℕ) (ls : List Listed) → length ls ≤ k → AreFrom n ls → ended_at (n + k) ls ≡ ls
end_past k n [] less h = refl
end_past zero n (l ∷ ls) less h = absurd (omega arith)
end_past (suc k) n (l ∷ ls) less h =
    let e : n + suc k ≡ suc n + k = omega arith in
    (λ j. choose_second (ℕ_discrete l.id (n + suc k)) (ended l) l (λ q. let a = h.0 in omega arith) j
    ∷ (ap (λ (z : ℕ). ended_at z ls) e ∙ end_past k (suc n) ls (omega arith) h.1) j)

-- the one at its position ends
end_there : (k n : ℕ) (ls : List Listed) (d : Listed) → k < length ls → AreFrom n ls
    → set ls k (ended (get_or ls k d)) ≡ ended_at (n + k) ls
end_there k n [] d less h = absurd (omega arith)
end_there zero n (l ∷ ls) d less h =
    let e : n + 0 ≡ n = omega arith in
    (λ j. sym (choose_first (ℕ_discrete l.id (n + 0)) (ended l) l (h.0 ∙ sym e)) j
    ∷ sym (ap (λ (z : ℕ). ended_at z ls) e ∙ end_none n (suc n) ls (omega arith) h.1) j)
end_there (suc k) n (l ∷ ls) d less h =
    let e : suc n + k ≡ n + suc k = omega arith in
    (λ j. sym (choose_second (ℕ_discrete l.id (n + suc k)) (ended l) l (λ q. let a = h.0 in omega arith)) j
    ∷ (end_there k (suc n) ls d (omega arith) h.1 ∙ ap (λ (z : ℕ). ended_at z ls) e) j)

module _ (ls : List Listed) (listing : IsListing ls) (id : ℕ) where
  numbered : AreFrom 0 ls
  numbered = are_from 0 ls (λ k l there. let e = listing.ids k l there in omega arith)

  behind : 0 + id ≡ id
  behind = omega arith

  -- the one with an id below the length ends at its position
  pub ended_here : (d : Listed) → id < length ls → set ls id (ended (get_or ls id d)) ≡ ended_at id ls
  ended_here d less = end_there id 0 ls d less numbered ∙ ap (λ (z : ℕ). ended_at z ls) behind

  -- and past the length none ends
  pub ended_none : length ls ≤ id → ls ≡ ended_at id ls
  ended_none past = sym (end_past id 0 ls past numbered) ∙ ap (λ (z : ℕ). ended_at z ls) behind
