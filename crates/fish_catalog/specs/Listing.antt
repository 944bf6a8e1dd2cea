-- The definitions as a version of the registry has them: what always holds of them, and how an operation
-- changes them.
use Rattle.std.specs.Prelude.{◌≡◌, ℕ, ◌<◌, ◌≤◌, List, Bool, true, false, Some, All, count_by, filter, length, map, slice_get}
use Rattle.std.proofs.Math.Decide.{ℕ_discrete}
use Rattle.fish_layout.specs.Cleared.{choose}
use Rattle.fish_catalog.specs.Canonical.{IsCanonical}
use Rattle.fish_catalog.specs.Rows.{IsName, is_active}
use Rattle.fish_catalog.specs.Words.{name_in, text_in}
use Rattle.fish_catalog.specs.Limits.{most_active, most_rows}
use Rattle.fish_catalog.specs.declared.listed.Listed.{Listed}
use Rattle.fish_catalog.specs.declared.row.CatRow.{CatRow}

-- whether a definition is active, as a test
abbrev pub is_on : Listed → Bool
is_on l = l.active

-- a row of the catalogue without the positions where its index begins and ends
abbrev pub listed_of : CatRow → Listed
listed_of row = record { id = row.id; name = row.name; def = row.def; active = is_active row }

-- the definition that the words of the row with an id spell
abbrev pub listed_in : (ℕ → ℕ) → ℕ → Bool → Listed
listed_in f id active = record { id = id; name = name_in f; def = text_in f; active = active }

-- what always holds of the definitions of a version
pub record IsListing (ls : List Listed) : Type 0 where
  -- at most 256 are there
  pub few : length ls ≤ most_rows
  -- their ids are 0, 1, 2 and so on
  pub ids : (n : ℕ) (l : Listed) → slice_get ls n ≡ Some l → l.id ≡ n
  pub names : All (λ l. IsName l.name) ls
  pub texts : All (λ l. IsCanonical l.def) ls
  -- at most as many are active as may be
  pub few_active : count_by is_on ls ≤ most_active
  -- no two active ones have one name
  pub apart : (i j : ℕ) (one other : Listed) → slice_get ls i ≡ Some one → slice_get ls j ≡ Some other
      → one.active ≡ true → other.active ≡ true → one.name ≡ other.name → i ≡ j

-- a definition of this name and text may be registered: there is room, and no active one has the name
pub record IsNewName (ls : List Listed) (name text : List ℕ) : Type 0 where
  pub room : length ls < most_rows
  pub name_is : IsName name
  pub text_is : IsCanonical text
  pub few : count_by is_on ls < most_active
  pub free : (n : ℕ) (l : Listed) → slice_get ls n ≡ Some l → l.active ≡ true → l.name ≡ name → ⊥

-- the definition with this id is active
pub record IsOnAt (ls : List Listed) (id : ℕ) : Type 0 where
  pub listed : Listed
  pub there : slice_get ls id ≡ Some listed
  pub active : listed.active ≡ true

-- the definition ends
abbrev pub ended : Listed → Listed
ended l = record l { active = false }

-- the definitions once the one with an id has ended
abbrev pub ended_at : ℕ → List Listed → List Listed
ended_at id ls = map (λ l. choose (ℕ_discrete l.id id) (ended l) l) ls

-- the texts of those that are active, under their ids
abbrev pub active_texts : List Listed → List (ℕ × List ℕ)
active_texts ls = map (λ l. (l.id, l.def)) (filter is_on ls)
