-- The rows of the catalogue that a commit has: those that the control pass knows, and how they went on since the last
-- one.
use Rattle.std.specs.Prelude.{ℕ, ◌≡◌, ◌<◌, List, Some, map, slice_get}
use Rattle.fish_catalog.specs.Covering.{Covers}
use Rattle.fish_catalog.specs.Listing.{listed_of}
use Rattle.fish_catalog.specs.Words.{bound_word}
use Rattle.fish_catalog.specs.declared.row.CatRow.{CatRow}
use Rattle.fish_rule.specs.Registry.{control_word, row_at}
use Rattle.fish_rule.specs.declared.view.View.{View}

-- the rows are those of the log's words, as the control pass knows them: its definitions, and where their indices begin
-- and end
pub record HoldsRows (v : View) (rows : List CatRow) : Type 0 where
  pub control : v.lane ≡ 1
  pub listed : map listed_of rows ≡ v.rows
  pub from : (id : ℕ) (row : CatRow) → slice_get rows id ≡ Some row
      → control_word v.control_words (row_at id 0) ≡ bound_word row.from
  pub to : (id : ℕ) (row : CatRow) → slice_get rows id ≡ Some row
      → control_word v.control_words (row_at id 1) ≡ bound_word row.to

-- the rows went on: each old one is there under its id with its text, and a new one covers no record below a number
-- that the old one under its id didn't cover
pub record HaveGrown (number : ℕ) (old new : List CatRow) : Type 0 where
  pub texts : (id : ℕ) (row : CatRow) → slice_get old id ≡ Some row → (r : CatRow) × (slice_get new id ≡ Some r)
      × (r.def ≡ row.def)
  pub covers : (id n : ℕ) (row : CatRow) → slice_get new id ≡ Some row → n < number → Covers row n
      → (r : CatRow) × (slice_get old id ≡ Some r) × Covers r n
