-- Pieces that fill a range fill, cut at a number, what of the range is at or past it, and what is below.
use Rattle.std.proofs.Common.{◌≡◌, ℕ, zero, suc, ◌<◌, ◌≤◌, List, [], ◌∷◌, ◌++◌, inl, inr, refl, sym, ap, ◌∙◌, subst, arith}
use Rattle.std.proofs.Common.{Option, Some, None, slice_get, Bool, true, false, max, min, take, nat_lt}
use Rattle.std.specs.Prelude.{if◌then◌else◌}
use Rattle.std.specs.List.{cons_option, filter_map}
use Rattle.std.proofs.lemmas.Bool.{cases_lt, ltb-true, ltb-false}
use Rattle.std.proofs.lemmas.Option.{same_Some}
use Rattle.fish_plan.specs.Pieces.{Fill, piece_from, piece_to}
use Rattle.fish_plan.specs.declared.pieces.Piece.{Piece}
use Rattle.fish_plan.specs.declared.pieces.Piece.TheVariants.{Full, Index}
use Rattle.fish_scan.specs.Cutting.{above_of, below_of, piece_with_ends, pieces_above, pieces_below}

-- ---- the ends of a piece

from_is : (x : Piece) (from to : ℕ) → piece_from (piece_with_ends x from to) ≡ from
from_is (Index id a b) from to = refl
from_is (Full a b) from to = refl

to_is : (x : Piece) (from to : ℕ) → piece_to (piece_with_ends x from to) ≡ to
to_is (Index id a b) from to = refl
to_is (Full a b) from to = refl

-- pieces that fill a range fill none that begins past its end
order : (ps : List Piece) (from to : ℕ) → Fill ps from to → from ≤ to
order [] from to h = omega arith
order (x ∷ ps) from to h = (let rest = order ps from (piece_from x) h.2 in let less = h.1 in omega arith)

-- and where they fill none there are none
none_in : (ps : List Piece) (from to : ℕ) → Fill ps from to → to ≤ from → ps ≡ []
none_in [] from to h less = refl
none_in (x ∷ ps) from to h less = absurd (let rest = order ps from (piece_from x) h.2 in let some = h.1 in omega arith)

-- ---- what is cut

pub cut_some : {A : Type 0} (t : Bool) (x : A) → t ≡ true → (if t then Some x else None) ≡ Some x
cut_some true x h = refl
cut_some false x h = absurd (cc h)

pub cut_none : {A : Type 0} (t : Bool) (x : A) → t ≡ false → (if t then Some x else None) ≡ None
cut_none true x h = absurd (cc h)
cut_none false x h = refl

-- with one piece more in front
pub map_some : (f : Piece → Option Piece) (x y : Piece) (xs : List Piece) → f x ≡ Some y → filter_map f (x ∷ xs) ≡ y ∷ filter_map f xs
map_some f x y xs is = ap (λ (z : Option Piece). cons_option z (filter_map f xs)) is

pub map_none : (f : Piece → Option Piece) (x : Piece) (xs : List Piece) → f x ≡ None → filter_map f (x ∷ xs) ≡ filter_map f xs
map_none f x xs is = ap (λ (z : Option Piece). cons_option z (filter_map f xs)) is

-- those at or past a number: a piece in front, where the others fill what is below it
above_by : (x : Piece) (ps : List Piece) (from to base : ℕ) → Fill (x ∷ ps) from to
    → Fill (pieces_above base ps) (min (max from base) (piece_from x)) (piece_from x)
    → (t : Bool) → nat_lt base (piece_to x) ≡ t → Fill (pieces_above base (x ∷ ps)) (min (max from base) to) to
above_by x ps from to base h rest true is =
    let y = piece_with_ends x (max (piece_from x) base) (piece_to x) in
    let less : base < piece_to x = ltb-true base (piece_to x) is in
    let same : pieces_above base (x ∷ ps) ≡ y ∷ pieces_above base ps =
    map_some (above_of base) x y ps (cut_some (nat_lt base (piece_to x)) y is) in
    let least = order ps from (piece_from x) h.2 in
    let some = h.1 in
    let end = h.0 in
    let first : piece_from y ≡ max (piece_from x) base = from_is x (max (piece_from x) base) (piece_to x) in
    subst (λ (z : List Piece). Fill z (min (max from base) to) to) (sym same) (
      to_is x (max (piece_from x) base) (piece_to x) ∙ h.0,
      omega arith,
      elim (cases_lt (piece_from x) base) [
        | inl below ↦ (
            let none : pieces_above base ps ≡ [] =
            none_in (pieces_above base ps) (min (max from base) (piece_from x)) (piece_from x) rest (omega arith) in
            let whole : min (max from base) to ≡ piece_from y = omega arith in
            subst (λ (z : List Piece). Fill z (min (max from base) to) (piece_from y)) (sym none) whole)
        | inr above ↦ (
            let low : min (max from base) (piece_from x) ≡ min (max from base) to = omega arith in
            let high : piece_from x ≡ piece_from y = omega arith in
            subst (λ (z : ℕ × ℕ). Fill (pieces_above base ps) z.0 z.1) (λ i. (low i, high i)) rest)
      ],
    )
above_by x ps from to base h rest false is =
    let y = piece_with_ends x (max (piece_from x) base) (piece_to x) in
    let more : piece_to x ≤ base = ltb-false base (piece_to x) is in
    let same : pieces_above base (x ∷ ps) ≡ pieces_above base ps =
    map_none (above_of base) x ps (cut_none (nat_lt base (piece_to x)) y is) in
    let some = h.1 in
    let end = h.0 in
    let none : pieces_above base ps ≡ [] =
    none_in (pieces_above base ps) (min (max from base) (piece_from x)) (piece_from x) rest (omega arith) in
    let whole : min (max from base) to ≡ to = omega arith in
    subst (λ (z : List Piece). Fill z (min (max from base) to) to) (sym (same ∙ none)) whole

pub fill_above : (ps : List Piece) (from to base : ℕ) → Fill ps from to → Fill (pieces_above base ps) (min (max from base) to) to
fill_above [] from to base h = omega arith
fill_above (x ∷ ps) from to base h =
    above_by x ps from to base h (fill_above ps from (piece_from x) base h.2) (nat_lt base (piece_to x)) refl

-- and those below it
below_by : (x : Piece) (ps : List Piece) (from to base : ℕ) → Fill (x ∷ ps) from to
    → Fill (pieces_below base ps) from (max from (min (piece_from x) base))
    → (t : Bool) → nat_lt (piece_from x) base ≡ t → Fill (pieces_below base (x ∷ ps)) from (max from (min to base))
below_by x ps from to base h rest true is =
    let y = piece_with_ends x (piece_from x) (min (piece_to x) base) in
    let less : piece_from x < base = ltb-true (piece_from x) base is in
    let same : pieces_below base (x ∷ ps) ≡ y ∷ pieces_below base ps =
    map_some (below_of base) x y ps (cut_some (nat_lt (piece_from x) base) y is) in
    let least = order ps from (piece_from x) h.2 in
    let some = h.1 in
    let end = h.0 in
    let first : piece_from y ≡ piece_from x = from_is x (piece_from x) (min (piece_to x) base) in
    let high : max from (min (piece_from x) base) ≡ piece_from y = omega arith in
    let last : piece_to y ≡ min (piece_to x) base = to_is x (piece_from x) (min (piece_to x) base) in
    subst (λ (z : List Piece). Fill z from (max from (min to base))) (sym same)
    (omega arith, omega arith, subst (Fill (pieces_below base ps) from) high rest)
below_by x ps from to base h rest false is =
    let y = piece_with_ends x (piece_from x) (min (piece_to x) base) in
    let more : base ≤ piece_from x = ltb-false (piece_from x) base is in
    let same : pieces_below base (x ∷ ps) ≡ pieces_below base ps =
    map_none (below_of base) x ps (cut_none (nat_lt (piece_from x) base) y is) in
    let some = h.1 in
    let end = h.0 in
    let high : max from (min (piece_from x) base) ≡ max from (min to base) = omega arith in
    subst (λ (z : List Piece). Fill z from (max from (min to base))) (sym same) (subst (Fill (pieces_below base ps) from) high rest)

pub fill_below : (ps : List Piece) (from to base : ℕ) → Fill ps from to → Fill (pieces_below base ps) from (max from (min to base))
fill_below [] from to base h = omega arith
fill_below (x ∷ ps) from to base h =
    below_by x ps from to base h (fill_below ps from (piece_from x) base h.2) (nat_lt (piece_from x) base) refl

-- ---- one piece more

cons_last : {A : Type 0} (o : Option A) (xs ys : List A) → cons_option o xs ++ ys ≡ cons_option o (xs ++ ys)
cons_last None xs ys = refl
cons_last (Some x) xs ys = refl

-- the parts of the pieces up to a place, and the one there
pub cut_more : (f : Piece → Option Piece) (ps : List Piece) (n : ℕ) (x : Piece) → slice_get ps n ≡ Some x
    → filter_map f (take (suc n) ps) ≡ filter_map f (take n ps) ++ cons_option (f x) []
cut_more f [] n x there = absurd cc
cut_more f (y ∷ ps) zero x there = ap (λ (z : Piece). cons_option (f z) []) (same_Some y x there)
cut_more f (y ∷ ps) (suc n) x there =
    ap (cons_option (f y)) (cut_more f ps n x there)
    ∙ sym (cons_last (f y) (filter_map f (take n ps)) (cons_option (f x) []))
