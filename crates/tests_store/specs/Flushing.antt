-- The control pass of a log and the store that it writes.
use Rattle.std.specs.Prelude.{ℕ, ◌≡◌, ◌<◌, List, Option, All, false, length}
use Rattle.fish_catalog.specs.declared.commit.Commit.{Commit}
use Rattle.fish_catalog.specs.declared.entry.Entry.{Entry}
use Rattle.fish_flush.specs.Carrying.{CarriesLog}
use Rattle.fish_flush.specs.Rows.{HoldsRows}
use Rattle.fish_ingest.specs.Ingestion.{CanIngest, CanStart}
use Rattle.fish_recover.specs.Stores.{IsOpened}
use Rattle.fish_recover.specs.declared.opened.Opened.{Opened}
use Rattle.fish_rule.specs.Passes.{IsPassOf, view}
use Rattle.fish_rule.specs.Table.{first_view}
use Rattle.fish_rule.specs.declared.seats.Start.{Start}
use Rattle.fish_rule.specs.declared.table.Log.{Log}
use Rattle.fish_rule.specs.declared.table.Pass.{Pass}
use Rattle.fish_rule.specs.declared.table.Shape.{Shape}
use Rattle.tests_store.specs.declared.passes.Seat.{Seat}
use Rattle.tests_store.specs.declared.passes.Control.{Control}

-- a log of this shape that begins so, at 0, and holds no record, and its control pass
pub record IsEmptyLog (shape : Shape) (start : Start) (log : Log) (pass : Pass) : Type 0 where
  pub of : IsPassOf log pass
  pub first : view pass ≡ first_view log.key
  pub number : log.key.number ≡ 0
  pub line : log.key.line ≡ 0
  pub rows : log.key.rows.value ≡ start.catalog
  pub shape_is : log.shape ≡ shape

-- the pass may store and checkpoint
pub record IsFlushing (images : List ℕ → Type 0) (log : Log) (control : Control) : Type 0 where
  pub ready : CanIngest log control.pass control.defs
  pub live : control.flusher.shut ≡ false
  pub held : HoldsRows (view control.pass) control.start.catalog
  pub commit : Commit
  pub entries : List Entry
  pub carries : CarriesLog images control.flusher (view control.pass) log.shape control.start.catalog commit entries

-- a store that was opened
pub record IsOpenStore (images : List ℕ → Type 0) (o : Opened) : Type 0 where
  pub content : Option (List ℕ)
  pub commit : Commit
  pub entries : List Entry
  pub is : IsOpened content images commit entries o

-- the pass is one of the log, and isn't entered
pub record IsOutOf (log : Log) (pass : Pass) : Type 0 where
  pub of : IsPassOf log pass
  pub start : CanStart (view pass)

-- so is that of each of some seats
pub record AreOut (log : Log) (seats : List Seat) : Type 0 where
  pub all : All (λ seat. IsOutOf log seat.pass) seats
  pub some : 0 < length seats
