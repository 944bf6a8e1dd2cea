-- What is in lists.
use Rattle.std.proofs.Common.{◌≡◌, ℕ, zero, suc, length, List, [], ◌∷◌, ◌++◌, refl, ap, subst, inl, inr, ◌⊎◌, arith}
use Rattle.std.proofs.Common.{All, Some, slice_get}
use Rattle.std.specs.Prelude.{Contains}
use Rattle.std.proofs.lemmas.Option.{get_or_from_slice_get, same_Some, slice_get_within}
use Rattle.std.proofs.lemmas.List.Elements.{All-get_or}
use Rattle.fish_rule.proofs.laws.Lists.{among_either}
use Rattle.fish_rule.specs.Views.{Among}

module _ {A : Type 0} where
  -- what is in a list with one more after
  pub among_last : (x y : A) (xs : List A) → Among x (xs ++ y ∷ []) → Among x xs ⊎ (y ≡ x)
  among_last x y xs m = elim (among_either x xs (y ∷ []) m) [ inl a ↦ inl a | inr (inl e) ↦ inr e | inr (inr h) ↦ elim h [ ] ]

  -- what stands in a list with one more after
  pub get_last : (xs : List A) (y x : A) (i : ℕ) → slice_get (xs ++ y ∷ []) i ≡ Some x
      → (slice_get xs i ≡ Some x) ⊎ ((i ≡ length xs) × (y ≡ x))
  get_last [] y x zero at = inr (refl, same_Some y x at)
  get_last [] y x (suc i) at = absurd cc
  get_last (z ∷ xs) y x zero at = inl at
  get_last (z ∷ xs) y x (suc i) at =
      elim (get_last xs y x i at) [ inl e ↦ inl e | inr e ↦ inr (ap suc e.0, e.1) ]

  -- what stands in a list stands there with others after
  pub get_before : (xs ys : List A) (x : A) (i : ℕ) → slice_get xs i ≡ Some x → slice_get (xs ++ ys) i ≡ Some x
  get_before [] ys x i at = absurd cc
  get_before (z ∷ xs) ys x zero at = at
  get_before (z ∷ xs) ys x (suc i) at = get_before xs ys x i at

  -- and one more after stands at the length
  pub get_here : (xs : List A) (y : A) → slice_get (xs ++ y ∷ []) (length xs) ≡ Some y
  get_here [] y = refl
  get_here (z ∷ xs) y = get_here xs y

  -- what holds of each element holds of one
  pub all_at : (P : A → Type 0) (xs : List A) (i : ℕ) (x : A) → All P xs → slice_get xs i ≡ Some x → P x
  all_at P xs i x all at =
      subst P (get_or_from_slice_get xs i x x at) (All-get_or P xs i x (slice_get_within xs i x at) all)

  pub length_more : (xs : List A) (y : A) → length (xs ++ y ∷ []) ≡ suc (length xs)
  length_more [] y = refl
  length_more (z ∷ xs) y = ap suc (length_more xs y)

  -- what a list contains is in it
  pub contains_among : (xs : List A) (x : A) → Contains xs x → Among x xs
  contains_among [] x (k, within, e) = absurd (omega arith)
  contains_among (y ∷ ys) x (zero, within, e) = inl e
  contains_among (y ∷ ys) x (suc k, within, e) = inr (contains_among ys x (k, omega arith, e))

  -- and the other way round
  pub among_contains : (xs : List A) (x : A) → Among x xs → Contains xs x
  among_contains [] x m = absurd m
  among_contains (y ∷ ys) x (inl e) = (0, omega arith, e)
  among_contains (y ∷ ys) x (inr m) = (let c = among_contains ys x m in (suc c.0, omega (arith, c.1), c.2))
