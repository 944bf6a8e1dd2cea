-- Membership by cases on the list, and what is in a filtered, numbered, reversed list.
use Rattle.std.proofs.Common.{◌≡◌, ℕ, zero, suc, ◌+◌, List, [], ◌∷◌, refl, ap, arith, ◌⊎◌, inl, inr}
use Rattle.std.specs.Prelude.{Option, Some, None, slice_get, Contains, reverse}
use Rattle.std.specs.List.{enumerate_from, filter_map, cons_option}
use Rattle.std.proofs.lemmas.Option.{same_Some}
use mathlib.Core.List.{reverse_aux}

-- the list has the element
abbrev pub Has : {X : Type 0} → List X → X → Type 0
Has [] x = ⊥
Has (y ∷ ys) x = (y ≡ x) ⊎ Has ys x

pub Has-from_Contains : {X : Type 0} (xs : List X) (x : X) → Contains xs x → Has xs x
Has-from_Contains [] x (k, within, e) = absurd (omega arith)
Has-from_Contains (y ∷ ys) x (zero, within, e) = inl e
Has-from_Contains (y ∷ ys) x (suc k, within, e) = inr (Has-from_Contains ys x (k, omega arith, e))

pub Contains-from_Has : {X : Type 0} (xs : List X) (x : X) → Has xs x → Contains xs x
Contains-from_Has [] x h = absurd h
Contains-from_Has (y ∷ ys) x (inl e) = (0, omega arith, e)
Contains-from_Has (y ∷ ys) x (inr h) =
    let c = Contains-from_Has ys x h in
    (suc c.0, omega (arith, c.1), c.2)

-- what is in a list that was turned round onto another
Has-reverse_aux : {X : Type 0} (xs ys : List X) (x : X) → Has (reverse_aux xs ys) x → Has xs x ⊎ Has ys x
Has-reverse_aux [] ys x h = inr h
Has-reverse_aux (y ∷ xs) ys x h =
    elim (Has-reverse_aux xs (y ∷ ys) x h) [ inl a ↦ inl (inr a) | inr (inl e) ↦ inl (inl e) | inr (inr b) ↦ inr b ]

reverse_aux-Has : {X : Type 0} (xs ys : List X) (x : X) → Has xs x ⊎ Has ys x → Has (reverse_aux xs ys) x
reverse_aux-Has [] ys x (inl a) = absurd a
reverse_aux-Has [] ys x (inr b) = b
reverse_aux-Has (y ∷ xs) ys x (inl (inl e)) = reverse_aux-Has xs (y ∷ ys) x (inr (inl e))
reverse_aux-Has (y ∷ xs) ys x (inl (inr a)) = reverse_aux-Has xs (y ∷ ys) x (inl a)
reverse_aux-Has (y ∷ xs) ys x (inr b) = reverse_aux-Has xs (y ∷ ys) x (inr (inr b))

pub Has-reverse : {X : Type 0} (xs : List X) (x : X) → Has (reverse xs) x → Has xs x
Has-reverse xs x h = elim (Has-reverse_aux xs [] x h) [ inl a ↦ a | inr b ↦ absurd b ]

pub reverse-Has : {X : Type 0} (xs : List X) (x : X) → Has xs x → Has (reverse xs) x
reverse-Has xs x h = reverse_aux-Has xs [] x (inl h)

-- what is in a list with one more in front, where there is one more
Has-cons_option : {X : Type 0} (o : Option X) (xs : List X) (x : X) → Has (cons_option o xs) x → (o ≡ Some x) ⊎ Has xs x
Has-cons_option None xs x h = inr h
Has-cons_option (Some y) xs x (inl e) = inl (ap Some e)
Has-cons_option (Some y) xs x (inr h) = inr h

cons_option-Has : {X : Type 0} (o : Option X) (xs : List X) (x : X) → (o ≡ Some x) ⊎ Has xs x → Has (cons_option o xs) x
cons_option-Has None xs x (inl e) = cc
cons_option-Has None xs x (inr h) = h
cons_option-Has (Some y) xs x (inl e) = inl (same_Some y x e)
cons_option-Has (Some y) xs x (inr h) = inr h

-- what a filter makes of the element at some place, numbered from n
abbrev pub Made : {X Y : Type 0} → (ℕ × X → Option Y) → ℕ → List X → Y → Type 0
Made {X} h n xs y = (k : ℕ) × (x : X) × (slice_get xs k ≡ Some x) × (h (n + k, x) ≡ Some y)

pub Made-from_Has : {X Y : Type 0} (h : ℕ × X → Option Y) (n : ℕ) (xs : List X) (y : Y)
    → Has (filter_map h (enumerate_from n xs)) y → Made h n xs y
Made-from_Has h n [] y i = absurd i
Made-from_Has h n (x ∷ xs) y i =
    elim (Has-cons_option (h (n, x)) (filter_map h (enumerate_from (n + 1) xs)) y i) [
      | inl e ↦ (let at : n + 0 ≡ n = omega arith in (0, x, refl, rw at e))
      | inr later ↦
          (let made = Made-from_Has h (n + 1) xs y later in
          let at : n + suc made.0 ≡ (n + 1) + made.0 = omega arith in
          (suc made.0, made.1, made.2, rw at made.3))
    ]

pub Has-from_Made : {X Y : Type 0} (h : ℕ × X → Option Y) (n : ℕ) (xs : List X) (y : Y) → Made h n xs y
    → Has (filter_map h (enumerate_from n xs)) y
Has-from_Made h n [] y (k, x, at, e) = absurd cc
Has-from_Made h n (x ∷ xs) y (zero, z, at, e) =
    let here : n + 0 ≡ n = omega arith in
    let first : h (n, x) ≡ Some y = rw (same_Some x z at) (rw here at e) in
    cons_option-Has (h (n, x)) _ y (inl first)
Has-from_Made h n (x ∷ xs) y (suc k, z, at, e) =
    let there : n + suc k ≡ (n + 1) + k = omega arith in
    cons_option-Has (h (n, x)) _ y (inr (Has-from_Made h (n + 1) xs y (k, z, at, rw there at e)))
