-- A list with one element more.
use Rattle.std.proofs.Common.{◌≡◌, ℕ, zero, suc, ◌<◌, ◌⊎◌, List, [], ◌∷◌, ◌++◌, length, inl, inr, refl, ap, arith}
use Rattle.std.specs.Prelude.{Some, slice_get}
use Rattle.std.proofs.lemmas.Option.{same_Some}

module _ {X : Type 0} where
  -- what is at a place was there, or is the last
  pub appended : (xs : List X) (x : X) (j : ℕ) (y : X) → slice_get (xs ++ x ∷ []) j ≡ Some y
      → ((j < length xs) × (slice_get xs j ≡ Some y)) ⊎ ((j ≡ length xs) × (x ≡ y))
  appended [] x zero y h = inr (refl, same_Some x y h)
  appended [] x (suc j) y h = absurd cc
  appended (z ∷ xs) x zero y h = inl (omega arith, h)
  appended (z ∷ xs) x (suc j) y h =
      elim (appended xs x j y h) [
        | inl old ↦ inl (omega (arith, old.0), old.1)
        | inr new ↦ inr (ap suc new.0, new.1)
      ]

  -- what was there stays
  pub stays : (xs : List X) (x : X) (j : ℕ) (y : X) → slice_get xs j ≡ Some y → slice_get (xs ++ x ∷ []) j ≡ Some y
  stays [] x j y h = absurd cc
  stays (z ∷ xs) x zero y h = h
  stays (z ∷ xs) x (suc j) y h = stays xs x j y h

  -- the last is the new one
  pub at_end : (xs : List X) (x : X) → slice_get (xs ++ x ∷ []) (length xs) ≡ Some x
  at_end [] x = refl
  at_end (z ∷ xs) x = at_end xs x
