-- Three lists side by side.
use Rattle.std.proofs.Common.{List, [], ◌∷◌}
use Rattle.fish_feed.specs.Works.{Triples}
use Rattle.fish_script.specs.Laws.{Pairs}

-- what is so of each two and each next three is so of the first and the last two
pub pairs_triples : {A B C G : Type 0} (R : A → B → Type 0) (S : B → C → G → Type 0) (T : A → C → G → Type 0)
    → ((x : A) (y : B) (z : C) (g : G) → R x y → S y z g → T x z g) → (xs : List A) (ys : List B) (zs : List C) (gs : List G)
    → Pairs R xs ys → Triples S ys zs gs → Triples T xs zs gs
pairs_triples R S T f [] [] [] [] h k = tt
pairs_triples R S T f [] [] [] (g ∷ gs) h k = elim k [ ]
pairs_triples R S T f [] [] (z ∷ zs) gs h k = elim k [ ]
pairs_triples R S T f [] (y ∷ ys) zs gs h k = elim h [ ]
pairs_triples R S T f (x ∷ xs) [] zs gs h k = elim h [ ]
pairs_triples R S T f (x ∷ xs) (y ∷ ys) [] gs h k = elim k [ ]
pairs_triples R S T f (x ∷ xs) (y ∷ ys) (z ∷ zs) [] h k = elim k [ ]
pairs_triples R S T f (x ∷ xs) (y ∷ ys) (z ∷ zs) (g ∷ gs) h k = (f x y z g h.0 k.0, pairs_triples R S T f xs ys zs gs h.1 k.1)
