-- Boundaries of the index that are cut to a count.
use Rattle.std.specs.Prelude.{◌≡◌, ℕ, ◌≤◌, Option, Some, None, min, option_map}
use Rattle.fish_catalog.specs.declared.row.CatRow.{CatRow}

-- where an index begins that is cut to a count: at most there
abbrev pub begun_by : ℕ → Option ℕ → ℕ
begun_by n None = n
begun_by n (Some from) = min from n

-- the row with boundaries of at most this count, and with a beginning
abbrev pub clamped : ℕ → CatRow → CatRow
clamped n row = record row { from = Some (begun_by n row.from); to = option_map (λ to. min to n) row.to }

-- the row's index begins, and neither begins nor ends after the count
pub record IsClamped (n : ℕ) (row : CatRow) : Type 0 where
  pub from : ℕ
  pub begins : row.from ≡ Some from
  pub early : from ≤ n
  pub ends : (to : ℕ) → row.to ≡ Some to → to ≤ n
