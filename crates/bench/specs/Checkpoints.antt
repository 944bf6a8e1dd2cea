-- A log whose store may be written.
use Rattle.std.specs.Prelude.{ℕ, ◌≡◌, List, false}
use Rattle.fish_catalog.specs.declared.commit.Commit.{Commit}
use Rattle.fish_catalog.specs.declared.entry.Entry.{Entry}
use Rattle.fish_catalog.specs.declared.row.CatRow.{CatRow}
use Rattle.fish_flush.specs.Carrying.{CarriesLog}
use Rattle.fish_flush.specs.Rows.{HoldsRows}
use Rattle.fish_flush.specs.declared.flusher.Flusher.{Flusher}
use Rattle.fish_rule.specs.Passes.{IsPassOf, view}
use Rattle.fish_rule.specs.Table.{first_view}
use Rattle.fish_rule.specs.declared.table.Log.{Log}
use Rattle.fish_rule.specs.declared.table.Pass.{Pass}
use Rattle.fish_rule.specs.declared.table.Shape.{Shape}

-- a log of this shape that begins with these rows, at 0, and holds no record, and its control pass
pub record IsFresh (shape : Shape) (rows : List CatRow) (log : Log) (pass : Pass) : Type 0 where
  pub of : IsPassOf log pass
  pub first : view pass ≡ first_view log.key
  pub number : log.key.number ≡ 0
  pub line : log.key.line ≡ 0
  pub rows_are : log.key.rows.value ≡ rows
  pub shape_is : log.shape ≡ shape

-- the pass may checkpoint: the store carries what was committed, and the rows are those that the pass knows
pub record CanCheckpoint (images : List ℕ → Type 0) (log : Log) (pass : Pass) (flusher : Flusher) (rows : List CatRow)
    : Type 0 where
  pub of : IsPassOf log pass
  pub live : flusher.shut ≡ false
  pub held : HoldsRows (view pass) rows
  pub commit : Commit
  pub entries : List Entry
  pub carries : CarriesLog images flusher (view pass) log.shape rows commit entries
