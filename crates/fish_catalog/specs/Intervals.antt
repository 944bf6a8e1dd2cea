-- Where the indices of one definition hold.
use Rattle.std.specs.Prelude.{◌≡◌, ℕ, ◌<◌, List, Some, slice_get}
use Rattle.fish_catalog.specs.declared.interval.Interval.{Interval}
use Rattle.fish_catalog.specs.declared.row.CatRow.{CatRow}

-- the interval is that of a row with this text, whose index has begun
pub record IsIntervalOf (rows : List CatRow) (def : List ℕ) (x : Interval) : Type 0 where
  pub row : CatRow
  pub there : slice_get rows x.id ≡ Some row
  pub text : row.def ≡ def
  pub begins : row.from ≡ Some x.from
  pub ends : row.to ≡ x.to

-- these are the intervals of the rows with this text, by id
pub record AreIntervals (rows : List CatRow) (def : List ℕ) (xs : List Interval) : Type 0 where
  pub sound : (i : ℕ) (x : Interval) → slice_get xs i ≡ Some x → IsIntervalOf rows def x
  pub complete : (x : Interval) → IsIntervalOf rows def x → (i : ℕ) × (slice_get xs i ≡ Some x)
  pub rise : (i j : ℕ) (x y : Interval) → slice_get xs i ≡ Some x → slice_get xs j ≡ Some y → i < j → x.id < y.id
