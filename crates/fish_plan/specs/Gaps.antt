-- What of a range below settled no index holds.
use Rattle.std.specs.Prelude.{◌≡◌, ℕ, ◌<◌, ◌≤◌, List, Some, slice_get}
use Rattle.fish_plan.specs.declared.pieces.Piece.{Piece}
use Rattle.fish_plan.specs.declared.pieces.Piece.TheVariants.{Full}

-- the piece at this position is full, has these numbers and lies below settled
pub record IsPlanGap (pieces : List Piece) (settled position from to : ℕ) : Type 0 where
  pub there : slice_get pieces position ≡ Some (Full from to)
  pub below : to ≤ settled

-- the first piece that is full and lies below settled has these numbers
pub record IsFirstGap (pieces : List Piece) (settled from to : ℕ) : Type 0 where
  pub position : ℕ
  pub gap : IsPlanGap pieces settled position from to
  pub first : (k a b : ℕ) → k < position → ¬ IsPlanGap pieces settled k a b

-- a piece is full and lies below settled
abbrev pub HasGap : List Piece → ℕ → Type 0
HasGap pieces settled = (position : ℕ) × (from : ℕ) × (to : ℕ) × IsPlanGap pieces settled position from to
