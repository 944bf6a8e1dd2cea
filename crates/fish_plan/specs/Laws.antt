-- What follows of every plan.
use Rattle.std.specs.Prelude.{◌≡◌, ℕ, ◌<◌, ◌≤◌, List, Some, slice_get}
use Rattle.fish_catalog.specs.declared.interval.Interval.{Interval}
use Rattle.fish_plan.specs.Cover.{IsCover}
use Rattle.fish_plan.specs.Intervals.{Holds, IsHeldBy}
use Rattle.fish_plan.specs.Pieces.{IsIn, one_full}
use Rattle.fish_plan.specs.declared.pieces.Piece.{Piece}
use Rattle.fish_plan.specs.declared.pieces.Piece.TheVariants.{Index}

-- a range has one plan at most
abbrev pub OnePlan : Type 0
OnePlan = (ps qs : List Piece) (from settled to : ℕ) (xs : List Interval) → IsCover ps from settled to xs
    → IsCover qs from settled to xs → ps ≡ qs

-- each number of the range is in one piece
abbrev pub EachInOne : Type 0
EachInOne = (pieces : List Piece) (from settled to : ℕ) (xs : List Interval) → IsCover pieces from settled to xs
    → (n : ℕ) → from ≤ n → n < to
    → (position : ℕ) × IsIn pieces n position × ((other : ℕ) → IsIn pieces n other → other ≡ position)

-- each number of an index piece lies in the range, below settled and in an interval of the piece's id
abbrev pub IndexInside : Type 0
IndexInside = (pieces : List Piece) (from settled to : ℕ) (xs : List Interval) → IsCover pieces from settled to xs
    → (k id p q : ℕ) → slice_get pieces k ≡ Some (Index id p q)
    → (from ≤ p) × (q ≤ settled) × (q ≤ to) × (position : ℕ) × (x : Interval) × (slice_get xs position ≡ Some x)
    × (x.id ≡ id) × ((n : ℕ) → p ≤ n → n < q → Holds x n)

-- a number below settled that an interval holds is in an index piece
abbrev pub HeldIsIndexed : Type 0
HeldIsIndexed = (pieces : List Piece) (from settled to : ℕ) (xs : List Interval) → IsCover pieces from settled to xs
    → (n k : ℕ) → n < settled → IsHeldBy xs n → IsIn pieces n k
    → (id : ℕ) × (p : ℕ) × (q : ℕ) × (slice_get pieces k ≡ Some (Index id p q))

-- where nothing is settled, the plan is one full piece
abbrev pub FullIsPlan : Type 0
FullIsPlan = (from to : ℕ) (xs : List Interval) → from ≤ to → IsCover (one_full from to) from 0 to xs
