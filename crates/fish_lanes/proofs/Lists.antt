-- Lanes at their positions.
use Rattle.std.proofs.Common.{◌≡◌, ◌≢◌, ℕ, ◌<◌, zero, suc, List, [], ◌∷◌, ◌++◌, length, set, get_or, refl, ap, inl, arith, Some}
use Rattle.std.proofs.Common.{slice_get, sym, subst, ◌∙◌, Bool, true, false}
use Rattle.std.specs.Prelude.{filter}
use Rattle.std.proofs.lemmas.Option.{slice_get_read}
use Rattle.fish_rule.specs.Views.{AllOf, Among}

module _ {A : Type 0} where
  pub some_once : (a b : A) → Some a ≡ Some b → a ≡ b
  some_once a b h = cc

  pub get_set_here : (xs : List A) (i : ℕ) (x : A) → i < length xs → slice_get (set xs i x) i ≡ Some x
  get_set_here [] i x h = absurd (omega arith)
  get_set_here (y ∷ xs) zero x h = refl
  get_set_here (y ∷ xs) (suc i) x h = get_set_here xs i x (omega arith)

  pub get_set_else : (xs : List A) (i j : ℕ) (x : A) → j ≢ i → slice_get (set xs i x) j ≡ slice_get xs j
  get_set_else [] i j x ne = refl
  get_set_else (y ∷ xs) zero zero x ne = absurd (ne refl)
  get_set_else (y ∷ xs) zero (suc j) x ne = refl
  get_set_else (y ∷ xs) (suc i) zero x ne = refl
  get_set_else (y ∷ xs) (suc i) (suc j) x ne = get_set_else xs i j x (λ e. ne (ap suc e))

  -- what is so of each, and of one more
  pub all_more : (P : A → Type 0) (xs : List A) (x : A) → AllOf P xs → P x → AllOf P (xs ++ x ∷ [])
  all_more P [] x h one = (one, tt)
  all_more P (y ∷ xs) x h one = (h.0, all_more P xs x h.1 one)

  -- what is so of the first, and of the others at their positions
  pub at_places : (P : ℕ → A → Type 0) (x : A) (xs : List A) → P 0 x → ((i : ℕ) (y : A) → slice_get xs i ≡ Some y → P (suc i) y)
      → (i : ℕ) (y : A) → slice_get (x ∷ xs) i ≡ Some y → P i y
  at_places P x xs here rest zero y at = subst (P 0) (some_once x y at) here
  at_places P x xs here rest (suc i) y at = rest i y at

-- a list that has nothing is empty
pub empty_list : (xs : List ℕ) → ((x : ℕ) → ¬ Among x xs) → xs ≡ []
empty_list [] none = refl
empty_list (x ∷ xs) none = absurd (none x (inl refl))

-- an element that was read is at its position
pub read_at : {A : Type 0} (xs : List A) (i : ℕ) (x : A) → i < length xs → x ≡ get_or xs i x → slice_get xs i ≡ Some x
read_at xs i x less is = slice_get_read xs (length xs) i x refl less is

-- ---- filtered lists

module _ {A : Type 0} (p : A → Bool) where
  pub filter_first : (x : A) (xs : List A) → p x ≡ true → filter p (x ∷ xs) ≡ x ∷ filter p xs
  filter_first x xs is = rw is

  pub filter_skip : (x : A) (xs : List A) → p x ≡ false → filter p (x ∷ xs) ≡ filter p xs
  filter_skip x xs is = rw is

  pub filter_last : (xs : List A) (x : A) → p x ≡ true → filter p (xs ++ x ∷ []) ≡ filter p xs ++ x ∷ []
  filter_last [] x is = rw is
  filter_last (y ∷ xs) x is = by (p y) refl (filter_last xs x is)
    where
      by : (b : Bool) → p y ≡ b → filter p (xs ++ x ∷ []) ≡ filter p xs ++ x ∷ []
          → filter p (y ∷ (xs ++ x ∷ [])) ≡ filter p (y ∷ xs) ++ x ∷ []
      by true e rest = filter_first y (xs ++ x ∷ []) e ∙ ap (λ (z : List A). y ∷ z) rest
          ∙ ap (λ (z : List A). z ++ x ∷ []) (sym (filter_first y xs e))
      by false e rest = filter_skip y (xs ++ x ∷ []) e ∙ rest
          ∙ ap (λ (z : List A). z ++ x ∷ []) (sym (filter_skip y xs e))

  pub filter_other : (xs : List A) (x : A) → p x ≡ false → filter p (xs ++ x ∷ []) ≡ filter p xs
  filter_other [] x is = rw is
  filter_other (y ∷ xs) x is = by (p y) refl (filter_other xs x is)
    where
      by : (b : Bool) → p y ≡ b → filter p (xs ++ x ∷ []) ≡ filter p xs → filter p (y ∷ (xs ++ x ∷ [])) ≡ filter p (y ∷ xs)
      by true e rest = filter_first y (xs ++ x ∷ []) e ∙ ap (λ (z : List A). y ∷ z) rest ∙ sym (filter_first y xs e)
      by false e rest = filter_skip y (xs ++ x ∷ []) e ∙ rest ∙ sym (filter_skip y xs e)

-- what stands at a position within
pub get_some : {A : Type 0} (xs : List A) (i : ℕ) → i < length xs → (x : A) × (slice_get xs i ≡ Some x)
get_some [] i h = absurd (omega arith)
get_some (x ∷ xs) zero h = (x, refl)
get_some (x ∷ xs) (suc i) h = get_some xs i (omega arith)
