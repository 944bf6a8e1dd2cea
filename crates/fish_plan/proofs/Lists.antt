-- Lists with one element more at the end.
use Rattle.std.proofs.Common.{◌≡◌, ℕ, zero, suc, List, [], ◌∷◌, ◌++◌, Some, ◌⊎◌, inl, inr, length, slice_get, refl}
use Rattle.std.proofs.Common.{arith}
use Rattle.std.proofs.lemmas.Option.{same_Some}

-- an element of the longer list is one of before, or the last
pub push_cases : {X : Type 0} (xs : List X) (y : X) (k : ℕ) (x : X) → slice_get (xs ++ y ∷ []) k ≡ Some x →
    (slice_get xs k ≡ Some x) ⊎ ((k ≡ length xs) × (y ≡ x))
push_cases [] y zero x h = inr (refl, same_Some y x h)
push_cases [] y (suc k) x h = absurd (cc)
push_cases (r ∷ xs) y zero x h = inl h
push_cases (r ∷ xs) y (suc k) x h =
    elim (push_cases xs y k x h) [ inl before ↦ inl before | inr last ↦ inr (omega (arith, last.0), last.1) ]

-- an element of a list stands in the longer one
pub longer : {X : Type 0} (xs : List X) (y x : X) (k : ℕ) → slice_get xs k ≡ Some x → slice_get (xs ++ y ∷ []) k ≡ Some x
longer [] y x k there = absurd cc
longer (z ∷ xs) y x zero there = there
longer (z ∷ xs) y x (suc k) there = longer xs y x k there

-- and the new one is its last
pub last : {X : Type 0} (xs : List X) (y : X) → slice_get (xs ++ y ∷ []) (length xs) ≡ Some y
last [] y = refl
last (z ∷ xs) y = last xs y
