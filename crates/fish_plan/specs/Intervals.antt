-- Which numbers the intervals of a definition hold.
use Rattle.std.specs.Prelude.{◌≡◌, ℕ, ◌<◌, ◌≤◌, ◌⊎◌, List, Option, Some, None, slice_get}
use Rattle.fish_catalog.specs.declared.interval.Interval.{Interval}

-- the number lies below the end, if there is one
abbrev pub IsBelowEnd : ℕ → Option ℕ → Type 0
IsBelowEnd n None = Unit {0}
IsBelowEnd n (Some to) = n < to

-- the interval holds the number
pub record Holds (x : Interval) (n : ℕ) : Type 0 where
  pub begun : x.from ≤ n
  pub open_still : IsBelowEnd n x.to

-- one of the intervals holds the number
pub record IsHeldBy (xs : List Interval) (n : ℕ) : Type 0 where
  pub position : ℕ
  pub interval : Interval
  pub there : slice_get xs position ≡ Some interval
  pub holds : Holds interval n

-- the interval begins before the other, or with it and under no greater id
abbrev pub IsAhead : Interval → Interval → Type 0
IsAhead x y = (x.from < y.from) ⊎ ((x.from ≡ y.from) × (x.id ≤ y.id))

-- of the intervals that hold the number this one begins first; of those that begin there it has the least id
pub record IsOldest (xs : List Interval) (n : ℕ) (x : Interval) : Type 0 where
  pub position : ℕ
  pub there : slice_get xs position ≡ Some x
  pub holds : Holds x n
  pub ahead : (k : ℕ) (y : Interval) → slice_get xs k ≡ Some y → Holds y n → IsAhead x y
