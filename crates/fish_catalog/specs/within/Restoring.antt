-- What holds of the rows of a catalogue beside each other, part by part.
use Rattle.std.specs.Prelude.{◌≡◌, ℕ, ◌≤◌, List, Some, count_by, length, slice_get}
use Rattle.fish_catalog.specs.Limits.{most_active, most_rows}
use Rattle.fish_catalog.specs.Rows.{IsActive, is_active}
use Rattle.fish_catalog.specs.declared.row.CatRow.{CatRow}

-- their ids are 0, 1, 2 and so on
abbrev pub HaveIds : List CatRow → Type 0
HaveIds rows = (k : ℕ) (row : CatRow) → slice_get rows k ≡ Some row → row.id ≡ k

-- no active one of them has the name
abbrev pub IsOnlyName : List CatRow → List ℕ → Type 0
IsOnlyName rows name = (k : ℕ) (row : CatRow) → slice_get rows k ≡ Some row → IsActive row → row.name ≡ name → ⊥

-- no two active rows have one name
abbrev pub AreApart : List CatRow → Type 0
AreApart rows =
    (j k : ℕ) (one other : CatRow) → slice_get rows j ≡ Some one → slice_get rows k ≡ Some other →
    IsActive one → IsActive other → one.name ≡ other.name → j ≡ k

-- all that a catalogue asks of its rows beside each other
pub record IsListed (rows : List CatRow) : Type 0 where
  pub few : length rows ≤ most_rows
  pub ids : HaveIds rows
  pub few_active : count_by is_active rows ≤ most_active
  pub apart : AreApart rows
