-- The rows of a catalogue: what always holds of them, what a name finds, and how they change.
use Rattle.std.specs.Prelude.{◌≡◌, ℕ, zero, suc, ◌≤◌, List, [], ◌∷◌, Bool, Option, Some, None, is_none, All, count_by, length, slice_get}
use Rattle.fish_catalog.specs.Canonical.{IsCanonical}
use Rattle.fish_value.specs.Limits.{longest_name}
use Rattle.fish_catalog.specs.Limits.{most_active, most_rows}
use Rattle.fish_catalog.specs.declared.row.CatRow.{CatRow}

-- a name has 1 to 32 bytes
abbrev pub IsName : List ℕ → Type 0
IsName name = (1 ≤ length name) × (length name ≤ longest_name)

-- the row's index has no end, as a test
abbrev pub is_active : CatRow → Bool
is_active row = is_none row.to

-- the row's index has no end
abbrev pub IsActive : CatRow → Type 0
IsActive row = row.to ≡ None

-- an index that ends has begun, and ends where it began or after it
abbrev pub IsSpanInOrder : Option ℕ → Option ℕ → Type 0
IsSpanInOrder from None = Unit {0}
IsSpanInOrder None (Some to) = ⊥
IsSpanInOrder (Some from) (Some to) = from ≤ to

-- what holds of each row by itself
pub record IsRow (row : CatRow) : Type 0 where
  pub name : IsName row.name
  pub text : IsCanonical row.def
  pub order : IsSpanInOrder row.from row.to

-- what holds of the rows of a catalogue
pub record IsCatalog (rows : List CatRow) : Type 0 where
  -- at most 256 are there
  pub few : length rows ≤ most_rows
  -- their ids are 0, 1, 2 and so on
  pub ids : (k : ℕ) (row : CatRow) → slice_get rows k ≡ Some row → row.id ≡ k
  pub each : All IsRow rows
  -- at most as many are active as may be
  pub few_active : count_by is_active rows ≤ most_active
  -- no two active rows have one name
  pub apart : (j k : ℕ) (one other : CatRow) → slice_get rows j ≡ Some one → slice_get rows k ≡ Some other →
      IsActive one → IsActive other → one.name ≡ other.name → j ≡ k

-- the row with this id is active and has the name
pub record IsActiveNamed (rows : List CatRow) (name : List ℕ) (id : ℕ) : Type 0 where
  pub row : CatRow
  pub there : slice_get rows id ≡ Some row
  pub named : row.name ≡ name
  pub active : IsActive row

-- an active row has the name
abbrev pub HasActive : List CatRow → List ℕ → Type 0
HasActive rows name = (id : ℕ) × IsActiveNamed rows name id

-- the row with this id has the name, and no later one has
pub record IsNewest (rows : List CatRow) (name : List ℕ) (id : ℕ) : Type 0 where
  pub row : CatRow
  pub there : slice_get rows id ≡ Some row
  pub named : row.name ≡ name
  pub last : (k : ℕ) (later : CatRow) → slice_get rows k ≡ Some later → later.name ≡ name → k ≤ id

-- a row with the name, active or not
pub record IsNameKnown (rows : List CatRow) (name : List ℕ) : Type 0 where
  pub id : ℕ
  pub row : CatRow
  pub there : slice_get rows id ≡ Some row
  pub named : row.name ≡ name

-- the row that is new
abbrev pub new_row : ℕ → List ℕ → List ℕ → CatRow
new_row id name def = record { id = id; name = name; def = def; from = None; to = None }

-- the row with this id has no beginning yet
pub record AwaitsFrom (rows : List CatRow) (id : ℕ) : Type 0 where
  pub row : CatRow
  pub there : slice_get rows id ≡ Some row
  pub unset : row.from ≡ None

-- the rows with this beginning in the row with this id
abbrev pub with_from : List CatRow → ℕ → ℕ → List CatRow
with_from [] id from = []
with_from (row ∷ rows) zero from = record row { from = Some from } ∷ rows
with_from (row ∷ rows) (suc id) from = row ∷ with_from rows id from
