-- The next piece, from the top of what is left of a range, and what one walk over the intervals finds for it.
use Rattle.std.specs.Prelude.{◌≡◌, ℕ, ◌<◌, ◌≤◌, ◌-◌, ◌⊎◌, ◌++◌, ◌∷◌, [], List, Option, MatchOption}
use Rattle.fish_catalog.specs.declared.interval.Interval.{Interval}
use Rattle.fish_plan.specs.Cover.{IsRight}
use Rattle.fish_plan.specs.Intervals.{Holds, IsHeldBy, IsOldest}
use Rattle.fish_plan.specs.Pieces.{piece_from, piece_to}
use Rattle.fish_plan.specs.declared.pieces.Piece.{Piece}
use Rattle.fish_plan.specs.declared.pieces.Piece.TheVariants.{Index, Full}

-- this is the oldest interval that holds the number, or none holds it
abbrev pub IsOldestOf : List Interval → ℕ → Option Interval → Type 0
IsOldestOf xs n found = MatchOption found (¬ IsHeldBy xs n) (IsOldest xs n)

-- it was the oldest of some intervals, and with one more after them it is this one
abbrev pub KeepsOldest : ℕ → Option Interval → Interval → Option Interval → Type 0
KeepsOldest n old x new = (xs : List Interval) → IsOldestOf xs n old → IsOldestOf (xs ++ x ∷ []) n new

-- no interval holds a number from `low` on and below `end`; `low` is where the range begins, or an interval ends there
pub record IsLowEnd (xs : List Interval) (from end low : ℕ) : Type 0 where
  pub within : from ≤ low
  pub falls : low < end
  pub clear : (n : ℕ) → low ≤ n → n < end → ¬ IsHeldBy xs n
  pub met : (low ≡ from) ⊎ IsHeldBy xs (low - 1)

-- the same of intervals with one more after them that doesn't reach `end` either
abbrev pub KeepsLowEnd : ℕ → ℕ → Interval → ℕ → Type 0
KeepsLowEnd end old x new = (xs : List Interval) (from : ℕ) → ¬ Holds x (end - 1) → IsLowEnd xs from end old
    → IsLowEnd (xs ++ x ∷ []) from end new

-- a full piece begins with the range, or an interval ends there
abbrev pub IsMet : List Interval → ℕ → Piece → Type 0
IsMet xs from (Index id first end) = Unit {0}
IsMet xs from (Full first end) = (first ≡ from) ⊎ IsHeldBy xs (first - 1)

-- the piece ends at `end`, and is right for what is left of the range
pub record IsNextPiece (xs : List Interval) (from end : ℕ) (x : Piece) : Type 0 where
  pub ends : piece_to x ≡ end
  pub falls : piece_from x < end
  pub within : from ≤ piece_from x
  pub right : IsRight xs from end x
  pub met : IsMet xs from x
