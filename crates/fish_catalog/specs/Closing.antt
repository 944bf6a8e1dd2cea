-- Rows whose index ends.
use Rattle.std.specs.Prelude.{◌≡◌, ℕ, zero, suc, ◌≤◌, List, [], ◌∷◌, Some, None, slice_get}
use Rattle.fish_catalog.specs.Rows.{IsActiveNamed}
use Rattle.fish_catalog.specs.declared.row.CatRow.{CatRow}

-- the row with this id is active, and its index has begun at the number or before it
pub record AwaitsTo (rows : List CatRow) (id to : ℕ) : Type 0 where
  pub row : CatRow
  pub there : slice_get rows id ≡ Some row
  pub active : row.to ≡ None
  pub from : ℕ
  pub begins : row.from ≡ Some from
  pub upto : from ≤ to

-- the rows with this end in the row with this id
abbrev pub with_to : List CatRow → ℕ → ℕ → List CatRow
with_to [] id to = []
with_to (row ∷ rows) zero to = record row { to = Some to } ∷ rows
with_to (row ∷ rows) (suc id) to = row ∷ with_to rows id to

-- the index of the active row with the name, if one has it, has begun at the number or before it
abbrev pub MayClose : List CatRow → List ℕ → ℕ → Type 0
MayClose rows name to = (id : ℕ) → IsActiveNamed rows name id → AwaitsTo rows id to
