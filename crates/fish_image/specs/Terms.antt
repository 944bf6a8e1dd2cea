-- What a checker keeps of a commit.
use Rattle.std.specs.Prelude.{ℕ, ◌≡◌, List, Some, length, slice_get}
use Rattle.fish_catalog.specs.declared.commit.Commit.{Commit}
use Rattle.fish_catalog.specs.declared.row.CatRow.{CatRow}
use Rattle.fish_lang.specs.Definition.{definition_of}
use Rattle.fish_lang.specs.Language.{IsAccepted}
use Rattle.fish_image.specs.declared.terms.IndexRow.{IndexRow}
use Rattle.fish_image.specs.declared.terms.Terms.{Terms}

-- the row's definition and boundaries are kept
pub record IsIndexRow (row : CatRow) (x : IndexRow) : Type 0 where
  pub from : x.from ≡ row.from
  pub to : x.to ≡ row.to
  pub read : IsAccepted row.def (definition_of x.def)

-- those of all rows are kept
pub record AreIndexRows (rows : List CatRow) (xs : List IndexRow) : Type 0 where
  pub size : length xs ≡ length rows
  pub each : (id : ℕ) (row : CatRow) (x : IndexRow) → slice_get rows id ≡ Some row → slice_get xs id ≡ Some x
      → IsIndexRow row x

-- the terms are those of the commit
pub record AreTermsOf (c : Commit) (terms : Terms) : Type 0 where
  pub count : terms.count ≡ c.count
  pub lines : terms.lines ≡ c.lines
  pub rows : AreIndexRows c.rows terms.rows.items
