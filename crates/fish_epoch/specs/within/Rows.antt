-- What a pass has read of rows. What private clauses need of it.
use Rattle.std.specs.Prelude.{ℕ, ◌≡◌, ◌<◌, ◌≤◌, Some, slice_get, true}
use Rattle.fish_catalog.specs.Listing.{listed_in}
use Rattle.fish_catalog.specs.Words.{IsWritable, row_word}
use Rattle.fish_catalog.specs.declared.listed.Listed.{Listed}
use Rattle.fish_catalog.specs.declared.row.CatRow.{CatRow}
use Rattle.fish_rule.specs.Registry.{HasRead, row_at, row_in}
use Rattle.fish_rule.specs.Views.{Among}
use Rattle.fish_rule.specs.declared.view.View.{View}

-- the words of a row from 2 up to a position were read, and a row of the start has its own there
pub record HasRowWords (v : View) (id upto : ℕ) (f : ℕ → ℕ) : Type 0 where
  pub among : (i : ℕ) → 2 ≤ i → i < upto → Among (record { index = row_at id i; value = f i }) v.learned.words
  pub first : (row : CatRow) → slice_get v.about.rows.value id ≡ Some row → (i : ℕ) → 2 ≤ i → i < upto
      → IsWritable row × (f i ≡ row_word row i)

-- by the words read, the definition of the row with an id is this one
abbrev pub HasRow : View → ℕ → Listed → Type 0
HasRow v id l = (g : ℕ → ℕ) → HasRead g v.learned.words → l ≡ listed_in (row_in g id) id true
