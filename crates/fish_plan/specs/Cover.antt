-- What a plan of a range is.
use Rattle.std.specs.Prelude.{◌≡◌, ℕ, ◌<◌, ◌≤◌, ◌+◌, ◌-◌, List, Some, max, min, slice_get}
use Rattle.fish_catalog.specs.declared.interval.Interval.{Interval}
use Rattle.fish_plan.specs.Intervals.{IsHeldBy, IsOldest}
use Rattle.fish_plan.specs.Pieces.{Fill}
use Rattle.fish_plan.specs.declared.pieces.Piece.{Piece}
use Rattle.fish_plan.specs.declared.pieces.Piece.TheVariants.{Index, Full}

-- the settled number, or the end of the range on whose outer side it lies
abbrev pub cut : ℕ → ℕ → ℕ → ℕ
cut from settled to = max from (min settled to)

-- the numbers are read by the index of the oldest interval that holds the last of them, from where it begins on
pub record IsIndexedPiece (xs : List Interval) (from settled id first end : ℕ) : Type 0 where
  -- they lie below settled
  pub below : end ≤ settled
  pub interval : Interval
  pub named : interval.id ≡ id
  pub oldest : IsOldest xs (end - 1) interval
  -- where the interval begins before the range, they begin with the range
  pub begins : first ≡ max interval.from from

-- an index holds each of its numbers; of a full piece below settled none holds one
abbrev pub IsRight : List Interval → ℕ → ℕ → Piece → Type 0
IsRight xs from settled (Index id first end) = IsIndexedPiece xs from settled id first end
IsRight xs from settled (Full first end) = end ≤ settled → (n : ℕ) → first ≤ n → n < end → ¬ IsHeldBy xs n

-- the pieces are the plan of the range
pub record IsCover (pieces : List Piece) (from settled to : ℕ) (xs : List Interval) : Type 0 where
  -- they touch, newest first, and fill the range
  pub fill : Fill pieces from to
  -- what lies at the settled number or past it is one full piece
  pub unsettled : cut from settled to < to → slice_get pieces 0 ≡ Some (Full (cut from settled to) to)
  -- each piece is of the kind that the intervals ask for
  pub right : (k : ℕ) (x : Piece) → slice_get pieces k ≡ Some x → IsRight xs from settled x
  -- full pieces that touch are those on both sides of the settled number
  pub apart : (k a b c : ℕ) → slice_get pieces k ≡ Some (Full b c) → slice_get pieces (k + 1) ≡ Some (Full a b)
      → settled < c
