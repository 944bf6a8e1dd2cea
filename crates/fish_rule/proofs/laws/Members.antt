-- What is in lists, by places, and in lists that a function makes of others.
use Rattle.std.proofs.Common.{◌≡◌, ℕ, zero, suc, List, [], ◌∷◌, map, refl, ap, subst, sym, inl, inr, Some, slice_get}
use Rattle.std.specs.List.{flat_map}
use Rattle.std.proofs.lemmas.Option.{same_Some}
use Rattle.fish_rule.proofs.basics.Lists.{among_either, among_left, among_right}
use Rattle.fish_rule.specs.Views.{Among}

module _ {A : Type 0} where
  -- what is in a list stands at a place of it
  pub among_at : (xs : List A) (x : A) → Among x xs → (i : ℕ) × (slice_get xs i ≡ Some x)
  among_at [] x m = elim m [ ]
  among_at (y ∷ xs) x (inl e) = (0, ap Some e)
  among_at (y ∷ xs) x (inr m) = (let t = among_at xs x m in (suc t.0, t.1))

  -- what stands at a place of a list is in it
  pub at_among : (xs : List A) (i : ℕ) (x : A) → slice_get xs i ≡ Some x → Among x xs
  at_among [] i x at = absurd cc
  at_among (y ∷ xs) zero x at = inl (same_Some y x at)
  at_among (y ∷ xs) (suc i) x at = inr (at_among xs i x at)

module _ {A B : Type 0} where
  -- what is in a mapped list
  pub among_map : (f : A → B) (xs : List A) (y : B) → Among y (map f xs) → (x : A) × Among x xs × (f x ≡ y)
  among_map f [] y m = elim m [ ]
  among_map f (x ∷ xs) y (inl e) = (x, inl refl, e)
  among_map f (x ∷ xs) y (inr m) = (let t = among_map f xs y m in (t.0, inr t.1, t.2))

  -- the image of what is in a list is among the images
  pub map_among : (f : A → B) (xs : List A) (x : A) → Among x xs → Among (f x) (map f xs)
  map_among f [] x m = elim m [ ]
  map_among f (y ∷ xs) x (inl e) = inl (ap f e)
  map_among f (y ∷ xs) x (inr m) = inr (map_among f xs x m)

  -- what an element of a list makes is among what all make
  pub flat_among : (f : A → List B) (xs : List A) (x : A) (y : B) → Among x xs → Among y (f x) → Among y (flat_map f xs)
  flat_among f [] x y m n = elim m [ ]
  flat_among f (z ∷ xs) x y (inl e) n = among_left y (f z) (flat_map f xs) (subst (λ w. Among y (f w)) (sym e) n)
  flat_among f (z ∷ xs) x y (inr m) n = among_right y (f z) (flat_map f xs) (flat_among f xs x y m n)

  -- and what is among it some element made
  pub among_flat : (f : A → List B) (xs : List A) (y : B) → Among y (flat_map f xs) → (x : A) × Among x xs × Among y (f x)
  among_flat f [] y m = elim m [ ]
  among_flat f (z ∷ xs) y m = elim (among_either y (f z) (flat_map f xs) m) [
    | inl a ↦ (z, inl refl, a)
    | inr b ↦ (let t = among_flat f xs y b in (t.0, inr t.1, t.2))
  ]
