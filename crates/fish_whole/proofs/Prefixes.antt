-- Lists that others begin with.
use Rattle.std.proofs.Common.{◌≡◌, ℕ, ◌+◌, ◌<◌, ◌≤◌, zero, suc, List, [], ◌∷◌, ◌++◌, length, refl, sym, ap, ◌∙◌, subst, arith}
use Rattle.std.proofs.Common.{None, Some, slice_get}
use mathlib.Core.Option.{some}
use Rattle.std.proofs.Math.ListN.{get_elem?}
use Rattle.std.proofs.lemmas.Option.{same_Some}
use Rattle.std.proofs.lemmas.List.{append_assoc, append-nil}
use Rattle.fish_whole.specs.Whole.{IsPrefix}

-- a list begins with itself
pub prefix_self : {A : Type 0} (xs : List A) → IsPrefix xs xs
prefix_self {A} xs = ([], sym (append-nil xs))

-- two lists together begin with the first
pub prefix_first : {A : Type 0} (xs ys : List A) → IsPrefix xs (xs ++ ys)
prefix_first {A} xs ys = (ys, refl)

-- what a first part begins with, the whole does
pub prefix_both : {A : Type 0} (xs ys zs : List A) → IsPrefix xs ys → IsPrefix ys zs → IsPrefix xs zs
prefix_both {A} xs ys zs p q =
    (p.0 ++ q.0, q.1 ∙ ap (λ (z : List A). z ++ q.0) p.1 ∙ append_assoc xs p.0 q.0)

-- the same list before both keeps it so
pub prefix_append : {A : Type 0} (xs ys zs : List A) → IsPrefix ys zs → IsPrefix (xs ++ ys) (xs ++ zs)
prefix_append {A} xs ys zs p = (p.0, ap (λ (z : List A). xs ++ z) p.1 ∙ sym (append_assoc xs ys p.0))

-- an element of the first of two lists stands in both together
pub prefix_get : {A : Type 0} (xs rest : List A) (n : ℕ) (x : A) → slice_get xs n ≡ Some x → slice_get (xs ++ rest) n ≡ Some x
prefix_get {A} [] rest n x e = absurd (no n e)
  where
    no : (n : ℕ) → slice_get [] n ≡ Some x → ⊥
    no zero e = cc
    no (suc n) e = cc
prefix_get {A} (y ∷ xs) rest zero x e = e
prefix_get {A} (y ∷ xs) rest (suc n) x e = prefix_get xs rest n x e

-- and one of the second comes after the first
pub behind_get : {A : Type 0} (xs ys : List A) (n : ℕ) (x : A) → slice_get ys n ≡ Some x
    → slice_get (xs ++ ys) (length xs + n) ≡ Some x
behind_get {A} [] ys n x e = subst (λ (z : ℕ). slice_get ys z ≡ Some x) (let h : n ≡ 0 + n = omega arith in h) e
behind_get {A} (y ∷ xs) ys n x e =
    subst (λ (z : ℕ). slice_get (y ∷ (xs ++ ys)) z ≡ Some x)
    (let h : suc (length xs + n) ≡ length (y ∷ xs) + n = omega arith in h) (behind_get xs ys n x e)

-- what stands in a list stands at its place in each that begins with it
pub prefix_there : {A : Type 0} (xs ys : List A) (n : ℕ) (x : A) → IsPrefix xs ys → slice_get xs n ≡ Some x
    → slice_get ys n ≡ Some x
prefix_there {A} xs ys n x p e =
    subst (λ (z : List A). slice_get z n ≡ Some x) (sym p.1) (prefix_get xs p.0 n x e)

-- an element whose place is within the first of two lists stands there
pub front_get : {A : Type 0} (xs rest : List A) (n : ℕ) (x : A) → n < length xs → slice_get (xs ++ rest) n ≡ Some x
    → slice_get xs n ≡ Some x
front_get {A} [] rest n x less e = absurd (omega arith)
front_get {A} (y ∷ xs) rest zero x less e = e
front_get {A} (y ∷ xs) rest (suc n) x less e = front_get xs rest n x (omega arith) e

-- and one whose place is past it stands in the second
pub back_get : {A : Type 0} (xs ys : List A) (n : ℕ) (x : A) → slice_get (xs ++ ys) (length xs + n) ≡ Some x
    → slice_get ys n ≡ Some x
back_get {A} [] ys n x e = subst (λ (z : ℕ). slice_get ys z ≡ Some x) (let h : 0 + n ≡ n = omega arith in h) e
back_get {A} (y ∷ xs) ys n x e =
    back_get xs ys n x (subst (λ (z : ℕ). slice_get (y ∷ xs ++ ys) z ≡ Some x)
    (let h : length (y ∷ xs) + n ≡ suc (length xs + n) = omega arith in h) e)

-- a list begins with another whose elements stand in it at their places
pub prefix_gets : {A : Type 0} (xs ys : List A) → ((n : ℕ) (x : A) → get_elem? xs n ≡ some x → slice_get ys n ≡ Some x)
    → IsPrefix xs ys
prefix_gets {A} [] ys h = (ys, refl)
prefix_gets {A} (x ∷ xs) [] h = absurd (let e : None ≡ Some x = h 0 x refl in cc)
prefix_gets {A} (x ∷ xs) (y ∷ ys) h =
    let e : y ≡ x = same_Some y x (h 0 x refl) in
    let p = prefix_gets xs ys (λ n z at. h (suc n) z at) in
    (p.0, ap (λ (z : List A). y ∷ z) p.1 ∙ ap (λ (z : A). z ∷ xs ++ p.0) e)

-- of two lists that a third begins with the longer one begins with the other
pub prefix_shorter : {A : Type 0} (xs ys zs : List A) → IsPrefix xs zs → IsPrefix ys zs → length xs ≤ length ys → IsPrefix xs ys
prefix_shorter {A} [] ys zs p q less = (ys, refl)
prefix_shorter {A} (x ∷ xs) [] zs p q less = absurd (omega arith)
prefix_shorter {A} (x ∷ xs) (y ∷ ys) zs p q less =
    let same : y ∷ ys ++ q.0 ≡ x ∷ xs ++ p.0 = sym q.1 ∙ p.1 in
    let e : y ≡ x = cc in
    let rest : ys ++ q.0 ≡ xs ++ p.0 = cc in
    let h = prefix_shorter xs ys (ys ++ q.0) (p.0, rest) (q.0, refl) (omega arith) in
    (h.0, ap (λ (z : List A). y ∷ z) h.1 ∙ ap (λ (z : A). z ∷ xs ++ h.0) e)
