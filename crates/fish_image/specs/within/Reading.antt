-- What the bytes of a slot's body tell. What private clauses need of it.
use Rattle.std.specs.List.{flat_map}
use Rattle.std.specs.Prelude.{◌≡◌, ℕ, ◌≤◌, List, ◌++◌, Some, length, slice_get}
use Rattle.fish_catalog.specs.declared.row.CatRow.{CatRow}
use Rattle.fish_image.specs.Commits.{HasBoundaries, HasTexts}
use Rattle.fish_image.specs.Slot.{row_bytes}

-- a row has room in a slot's body
pub record IsSpellable (row : CatRow) : Type 0 where
  pub short_name : length row.name ≤ 32
  pub short_text : length row.def ≤ 255
  pub boundaries : HasBoundaries row
  pub texts : HasTexts row

-- the bytes are those of this row, which has the id
pub record IsRowOf (id : ℕ) (row : CatRow) (b : List ℕ) : Type 0 where
  pub spellable : IsSpellable row
  pub id_is : row.id ≡ id
  pub bytes : b ≡ row_bytes row

-- the bytes begin with those of these rows, whose ids are their positions, and others come after
pub record AreRowsOf (rows : List CatRow) (more b : List ℕ) : Type 0 where
  pub spellable : (k : ℕ) (row : CatRow) → slice_get rows k ≡ Some row → IsSpellable row
  pub ids : (k : ℕ) (row : CatRow) → slice_get rows k ≡ Some row → row.id ≡ k
  pub bytes : b ≡ flat_map row_bytes rows ++ more
