-- Which commits a slot of a store file can tell.
use Rattle.std.specs.Prelude.{ℕ, ◌≡◌, ◌^◌, ◌<◌, ◌≤◌, Option, Some, None, All, IsUtf8, count_by}
use Rattle.fish_catalog.specs.Limits.{most_active_at_first, newest_format}
use Rattle.fish_catalog.specs.Rows.{IsCatalog, is_active}
use Rattle.fish_catalog.specs.declared.commit.Commit.{Commit}
use Rattle.fish_catalog.specs.declared.row.CatRow.{CatRow}

-- the boundary is none, or a record's number
abbrev pub IsBoundary : Option ℕ → Type 0
IsBoundary None = Unit {0}
IsBoundary (Some n) = n < 2 ^ 28

-- the boundaries of a row are records' numbers
abbrev pub HasBoundaries : CatRow → Type 0
HasBoundaries row = IsBoundary row.from × IsBoundary row.to

-- the name of a row and its definition are texts
pub record HasTexts (row : CatRow) : Type 0 where
  pub name : IsUtf8 row.name
  pub text : IsUtf8 row.def

-- the numbers of a commit are within their limits
pub record IsWithin (c : Commit) : Type 0 where
  pub turn : c.turn < 3
  pub some_pages : 1 ≤ c.pages
  pub few_pages : c.pages ≤ 512
  pub some_bits : 4 ≤ c.bucket_bits
  pub few_bits : c.bucket_bits ≤ 16
  pub count : c.count ≤ 268435439
  pub lines : c.lines ≤ 68719176736
  pub boundaries : All HasBoundaries c.rows

-- the format is 1 or 2, and in format 1 fewer rows may be active
pub record IsOfFormat (c : Commit) : Type 0 where
  pub some : 1 ≤ c.format
  pub known : c.format ≤ newest_format
  pub few_active : c.format ≡ 1 → count_by is_active c.rows ≤ most_active_at_first

-- a slot can tell the commit: its numbers are within their limits, as the rows are of its format, and its rows are
-- texts and those of a catalogue
pub record IsCommit (c : Commit) : Type 0 where
  pub within : IsWithin c
  pub format : IsOfFormat c
  pub rows : IsCatalog c.rows
  pub texts : All HasTexts c.rows
