-- Index pieces lie in their intervals, and hold what intervals hold.
use Rattle.std.proofs.Common.{rules, ◌≡◌, ℕ, zero, suc, ◌-◌, ◌<◌, ◌≤◌, List, [], ◌∷◌, Option, Some, None, slice_get, sym, ap}
use Rattle.std.proofs.Common.{subst, ◌∙◌, arith}
use Rattle.std.proofs.Math.Decide.{dec_lt}
use Rattle.std.proofs.lemmas.Option.{same_Some}
use Rattle.fish_catalog.specs.declared.interval.Interval.{Interval}
use Rattle.fish_plan.proofs.Unique.{fill_order}
use Rattle.fish_plan.specs.Cover.{IsCover, IsIndexedPiece, cut}
use Rattle.fish_plan.specs.Laws.{FullIsPlan}
use Rattle.fish_plan.specs.Intervals.{Holds, IsBelowEnd, IsHeldBy}
use Rattle.fish_plan.specs.Pieces.{Fill, IsIn, piece_from, piece_to}
use Rattle.fish_plan.specs.declared.pieces.Piece.{Piece}
use Rattle.fish_plan.specs.declared.pieces.Piece.TheVariants.{Index, Full}

-- a piece lies in the range that all fill, and isn't empty
pub piece_within : (ps : List Piece) (from to k : ℕ) (x : Piece) → Fill ps from to → slice_get ps k ≡ Some x
    → (from ≤ piece_from x) × (piece_from x < piece_to x) × (piece_to x ≤ to)
piece_within [] from to k x h there = absurd cc
piece_within (y ∷ ps) from to zero x h there =
    subst (λ (z : Piece). (from ≤ piece_from z) × (piece_from z < piece_to z) × (piece_to z ≤ to)) (same_Some y x there)
    (fill_order ps from (piece_from y) h.2, omega (arith, h.0, h.1), omega (arith, h.0))
piece_within (y ∷ ps) from to (suc k) x h there =
    let i = piece_within ps from (piece_from y) k x h.2 there in (i.0, i.1, omega (arith, i.2, h.1))

-- a later piece lies below an earlier one
pub pieces_fall : (ps : List Piece) (from to j k : ℕ) (x y : Piece) → Fill ps from to → slice_get ps j ≡ Some x
    → slice_get ps k ≡ Some y → j < k → piece_to y ≤ piece_from x
pieces_fall [] from to j k x y h at_j at_k less = absurd cc
pieces_fall (z ∷ ps) from to j zero x y h at_j at_k less = absurd (omega arith)
pieces_fall (z ∷ ps) from to zero (suc k) x y h at_j at_k less =
    let e : piece_from z ≡ piece_from x = ap piece_from (same_Some z x at_j) in
    omega (arith, (piece_within ps from (piece_from z) k y h.2 at_k).2)
pieces_fall (z ∷ ps) from to (suc j) (suc k) x y h at_j at_k less =
    pieces_fall ps from (piece_from z) j k x y h.2 at_j at_k (omega arith)

-- below the last number of an interval it isn't at its end
below_before : (n m : ℕ) (end : Option ℕ) → m ≤ n → IsBelowEnd n end → IsBelowEnd m end
below_before n m None less h = tt
below_before n m (Some to) less h = omega arith

-- each number of an index piece lies in an interval of its id
pub index_inside : (ps : List Piece) (from settled to : ℕ) (xs : List Interval) → IsCover ps from settled to xs
    → (k id p q : ℕ) → slice_get ps k ≡ Some (Index id p q)
    → (from ≤ p) × (q ≤ settled) × (q ≤ to) × (position : ℕ) × (x : Interval) × (slice_get xs position ≡ Some x)
    × (x.id ≡ id) × ((n : ℕ) → p ≤ n → n < q → Holds x n)
index_inside ps from settled to xs h k id p q there =
    let i : IsIndexedPiece xs from settled id p q = h.right k (Index id p q) there in
    let w = piece_within ps from to k (Index id p q) h.fill there in (
      w.0,
      i.below,
      w.2,
      i.oldest.position,
      i.interval,
      i.oldest.there,
      i.named,
      λ n least most. record {
        begun = omega (arith, i.begins);
        open_still = below_before (q - 1) n i.interval.to (omega arith) i.oldest.holds.open_still;
      },
    )

-- below a full piece from settled on no piece passes settled
beyond : (ps : List Piece) (from settled to n k p q : ℕ) → Fill ps from to → slice_get ps 0 ≡ Some (Full settled to)
    → slice_get ps k ≡ Some (Full p q) → p ≤ n → n < settled → settled < q → ⊥
beyond [] from settled to n k p q h first there begins below above = absurd cc
beyond (x ∷ ps) from settled to n zero p q h first there begins below above =
    let e = ap piece_from (same_Some (Full p q) (Full settled to) (sym there ∙ first)) in omega (arith, e)
beyond (x ∷ ps) from settled to n (suc k) p q h first there begins below above =
    let e = ap piece_from (same_Some x (Full settled to) first) in
    let w = piece_within ps from (piece_from x) k (Full p q) h.2 there in omega (arith, e, w.2)

-- a number below settled that an interval holds is in an index piece
pub held_is_indexed : (ps : List Piece) (from settled to : ℕ) (xs : List Interval) → IsCover ps from settled to xs
    → (n k : ℕ) → n < settled → IsHeldBy xs n → IsIn ps n k
    → (id : ℕ) × (p : ℕ) × (q : ℕ) × (slice_get ps k ≡ Some (Index id p q))
held_is_indexed ps from settled to xs h n k below held is = kind is.piece is.there is.begins is.ends
  where
    kind : (x : Piece) → slice_get ps k ≡ Some x → piece_from x ≤ n → n < piece_to x
        → (id : ℕ) × (p : ℕ) × (q : ℕ) × (slice_get ps k ≡ Some (Index id p q))
    kind (Index id p q) there begins ends = (id, p, q, there)
    kind (Full p q) there begins ends = absurd (elim (dec_lt settled q) [
      | no upto ↦ h.right k (Full p q) there (omega arith) n begins ends held
      | yes above ↦ (let w = piece_within ps from to k (Full p q) h.fill there in
          let begun : from < settled = omega (arith, w.0, begins) in
          let past : settled < to = omega (arith, w.2) in
          let at : cut from settled to ≡ settled = omega arith in
          beyond ps from settled to n k p q h.fill
          (subst (λ (s : ℕ). slice_get ps 0 ≡ Some (Full s to)) at (h.unsettled (omega (arith, at)))) there begins below above)
    ])

-- where nothing is settled, the plan is one full piece
pub full_is_plan : FullIsPlan
full_is_plan from to xs h = search rules
