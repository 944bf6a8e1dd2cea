-- Lists side by side.
use Rattle.std.proofs.Common.{◌≡◌, ℕ, ◌+◌, ◌<◌, zero, suc, List, [], ◌∷◌, ◌++◌}
use Rattle.std.proofs.Common.{length, drop, take, sym, ap, ◌∙◌, subst, arith}
use Rattle.std.proofs.Common.{Some, slice_get}
use Rattle.std.proofs.Math.Decide.{dec_lt}
use Rattle.fish_feed.specs.Works.{Triples}
use Rattle.fish_script.specs.Laws.{Pairs}

-- what is so of each two and each next three is so of the first and the last two
pub pairs_triples : {A B G C : Type 0} (R : A → B → Type 0) (S : B → G → C → Type 0) (T : A → G → C → Type 0)
    → ((x : A) (y : B) (g : G) (z : C) → R x y → S y g z → T x g z) → (xs : List A) (ys : List B) (gs : List G) (zs : List C)
    → Pairs R xs ys → Triples S ys gs zs → Triples T xs gs zs
pairs_triples R S T f [] [] [] [] h k = tt
pairs_triples R S T f [] [] [] (z ∷ zs) h k = elim k [ ]
pairs_triples R S T f [] [] (g ∷ gs) zs h k = elim k [ ]
pairs_triples R S T f [] (y ∷ ys) gs zs h k = elim h [ ]
pairs_triples R S T f (x ∷ xs) [] gs zs h k = elim h [ ]
pairs_triples R S T f (x ∷ xs) (y ∷ ys) [] zs h k = elim k [ ]
pairs_triples R S T f (x ∷ xs) (y ∷ ys) (g ∷ gs) [] h k = elim k [ ]
pairs_triples R S T f (x ∷ xs) (y ∷ ys) (g ∷ gs) (z ∷ zs) h k = (f x y g z h.0 k.0, pairs_triples R S T f xs ys gs zs h.1 k.1)

-- what is so of those below a position, and of the one there, is so of those below the next one
pub below_push : {A : Type 0} (P : A → Type 0) (xs : List A) (n : ℕ) (x : A) → slice_get xs n ≡ Some x → P x
    → ((i : ℕ) (y : A) → i < n → slice_get xs i ≡ Some y → P y) → (i : ℕ) (y : A) → i < n + 1 → slice_get xs i ≡ Some y → P y
below_push P xs n x at one h i y less is = pick (dec_lt i n)
  where
    pick : Dec (i < n) → P y
    pick (yes before) = h i y before is
    pick (no not_before) =
        let here : i ≡ n = omega arith in
        let same : Some x ≡ Some y = sym at ∙ ap (slice_get xs) (sym here) ∙ is in
        subst P (let e : x ≡ y = cc in e) one

-- a slice that was written back is all that there is
pub written_back : {A : Type 0} (n : ℕ) (new xs : List A) → n ≡ length new → length new ≡ length xs
    → take n (new ++ drop (length new) xs) ≡ new
written_back n [] [] few many = ap (λ (z : ℕ). take z []) few
written_back n [] (x ∷ xs) few many = absurd (omega (many, arith))
written_back n (y ∷ new) [] few many = absurd (omega (many, arith))
written_back zero (y ∷ new) (x ∷ xs) few many = absurd (omega (few, arith))
written_back (suc n) (y ∷ new) (x ∷ xs) few many =
    ap (λ (z : List _). y ∷ z) (written_back n new xs (omega (few, arith)) (omega (many, arith)))
