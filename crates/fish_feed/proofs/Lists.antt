-- Lists side by side.
use Rattle.std.proofs.Common.{◌≡◌, ℕ, ◌<◌, ◌≤◌, zero, suc, List, [], ◌∷◌, ◌++◌, length, take, get_or, refl, ap, subst, arith}
use Rattle.std.proofs.Common.{Some, slice_get}
use Rattle.std.proofs.lemmas.Option.{slice_get_read}
use Rattle.fish_script.specs.Laws.{Pairs}

module _ {A B : Type 0} (R : A → B → Type 0) where
  -- one more of each
  pub pairs_push : (xs : List A) (ys : List B) (x : A) (y : B) → Pairs R xs ys → R x y → Pairs R (xs ++ x ∷ []) (ys ++ y ∷ [])
  pairs_push [] [] x y h one = (one, tt)
  pairs_push [] (z ∷ ys) x y h one = elim h [ ]
  pairs_push (w ∷ xs) [] x y h one = elim h [ ]
  pairs_push (w ∷ xs) (z ∷ ys) x y h one = (h.0, pairs_push xs ys x y h.1 one)

  -- they are as many
  pub pairs_length : (xs : List A) (ys : List B) → Pairs R xs ys → length ys ≡ length xs
  pairs_length [] [] h = refl
  pairs_length [] (z ∷ ys) h = elim h [ ]
  pairs_length (w ∷ xs) [] h = elim h [ ]
  pairs_length (w ∷ xs) (z ∷ ys) h = ap suc (pairs_length xs ys h.1)

  -- what stands at a position stands beside another
  pub pairs_at : (xs : List A) (ys : List B) (i : ℕ) (y : B) → Pairs R xs ys → slice_get ys i ≡ Some y
      → (x : A) × (slice_get xs i ≡ Some x) × R x y
  pairs_at [] [] i y h at = absurd cc
  pairs_at [] (z ∷ ys) i y h at = elim h [ ]
  pairs_at (w ∷ xs) [] i y h at = elim h [ ]
  pairs_at (w ∷ xs) (z ∷ ys) zero y h at = (w, refl, subst (R w) (let e : z ≡ y = cc in e) h.0)
  pairs_at (w ∷ xs) (z ∷ ys) (suc i) y h at = pairs_at xs ys i y h.1 at

-- what is so of each two is so in other words
pub pairs_map : {A B : Type 0} (R S : A → B → Type 0) → ((x : A) (y : B) → R x y → S x y) → (xs : List A) (ys : List B)
    → Pairs R xs ys → Pairs S xs ys
pairs_map R S f [] [] h = tt
pairs_map R S f [] (y ∷ ys) h = elim h [ ]
pairs_map R S f (x ∷ xs) [] h = elim h [ ]
pairs_map R S f (x ∷ xs) (y ∷ ys) h = (f x y h.0, pairs_map R S f xs ys h.1)

-- what is so of each two and each next two is so of the first and the last
pub pairs_both : {A B C : Type 0} (R : A → B → Type 0) (S : B → C → Type 0) (T : A → C → Type 0)
    → ((x : A) (y : B) (z : C) → R x y → S y z → T x z) → (xs : List A) (ys : List B) (zs : List C) → Pairs R xs ys → Pairs S ys zs
    → Pairs T xs zs
pairs_both R S T f [] [] [] h k = tt
pairs_both R S T f [] [] (z ∷ zs) h k = elim k [ ]
pairs_both R S T f [] (y ∷ ys) zs h k = elim h [ ]
pairs_both R S T f (x ∷ xs) [] zs h k = elim h [ ]
pairs_both R S T f (x ∷ xs) (y ∷ ys) [] h k = elim k [ ]
pairs_both R S T f (x ∷ xs) (y ∷ ys) (z ∷ zs) h k = (f x y z h.0 k.0, pairs_both R S T f xs ys zs h.1 k.1)

-- an element that was read is at its position
pub get_at : {A : Type 0} (xs : List A) (i : ℕ) (x : A) → i < length xs → x ≡ get_or xs i x → slice_get xs i ≡ Some x
get_at xs i x less is = slice_get_read xs (length xs) i x refl less is

-- what is so of each position is so with one more after
pub at_push : {A : Type 0} (P : ℕ → A → Type 0) (xs : List A) (x : A) → ((i : ℕ) (y : A) → slice_get xs i ≡ Some y → P i y)
    → P (length xs) x → (i : ℕ) (y : A) → slice_get (xs ++ x ∷ []) i ≡ Some y → P i y
at_push P [] x h one zero y at = subst (P 0) (let e : x ≡ y = cc in e) one
at_push P [] x h one (suc i) y at = absurd cc
at_push P (w ∷ xs) x h one zero y at = h 0 y at
at_push P (w ∷ xs) x h one (suc i) y at = at_push (λ j z. P (suc j) z) xs x (λ j z. h (suc j) z) one i y at

-- the first so many are so many
pub take_length : {A : Type 0} (n : ℕ) (xs : List A) → n ≤ length xs → length (take n xs) ≡ n
take_length zero xs h = refl
take_length (suc n) [] h = absurd (omega arith)
take_length (suc n) (x ∷ xs) h = ap suc (take_length n xs (omega arith))
