-- Which records the index of a row covers.
use Rattle.std.specs.Prelude.{◌≡◌, ℕ, ◌<◌, ◌≤◌, Some}
use Rattle.fish_catalog.specs.declared.row.CatRow.{CatRow}

-- the number lies where the row's index holds: from its beginning on, and before its end if it has one
pub record Covers (row : CatRow) (number : ℕ) : Type 0 where
  pub from : ℕ
  pub begins : row.from ≡ Some from
  pub behind : from ≤ number
  pub ahead : (to : ℕ) → row.to ≡ Some to → number < to
