-- What a run of a script asks for and leaves between two blocks.
use Rattle.std.specs.Prelude.{ℕ, ◌≡◌, ◌+◌, ◌^◌, List, None, Bool, false}
use Rattle.fish_flush.specs.Reading.{IsLineAt}
use Rattle.fish_lanes.specs.Between.{IsBetweenBlocks}
use Rattle.fish_lanes.specs.Ending.{EndsAlone}
use Rattle.fish_rule.specs.LoadSteps.{IsAlone}
use Rattle.fish_rule.specs.Passes.{IsPassOf, view}
use Rattle.fish_rule.specs.Start.{table_lines}
use Rattle.fish_rule.specs.declared.table.Log.{Log}
use Rattle.fish_store.specs.Ending.{KeepsCatalog}
use Rattle.fish_store.specs.declared.store.Store.{Store}

-- the table has the buckets of its shape, and as many lines as a table of that shape has which begins there
pub record IsTable (log : Log) : Type 0 where
  pub buckets : log.key.buckets ≡ 2 ^ log.shape.bucket_bits
  pub end : log.key.end ≡ log.key.line + table_lines log.shape.pages log.key.number log.key.line

-- the control pass may close the log
pub record CanClose (s : Store) : Type 0 where
  pub of : IsPassOf s.log s.pass
  pub alone : IsAlone (view s.pass)
  pub table : IsTable s.log

-- the store is between two blocks, after so many numbers, and no registration waits
pub record CanGoOn {D : Type 0} (images : D → List ℕ → Type 0) (disk : D) (s : Store) (from : ℕ) : Type 0 where
  pub between : IsBetweenBlocks images disk s from
  pub settled : s.registrar.waiting ≡ None
  pub table : IsTable s.log

-- the store was just opened: it may go on where its table begins, whose definitions were not changed, and no claim had
-- found the log full
pub record IsNewStore {D : Type 0} (images : D → List ℕ → Type 0) (disk : D) (s : Store) : Type 0 where
  pub go : CanGoOn images disk s s.log.key.number
  pub version : (view s.pass).learned.version ≡ 0
  pub unshut : (view s.pass).shut ≡ None

-- so many entries are before its table, and no statement of the run was refused yet
pub record IsNewRun {D : Type 0} (images : D → List ℕ → Type 0) (disk : D) (s : Store) (count : ℕ) (refused : Bool)
    : Type 0 where
  pub new : IsNewStore images disk s
  pub count_is : count ≡ s.log.key.number
  pub accepted : refused ≡ false

-- all of the log is committed, as the control pass knows its end and its last line; and every image has that line, and
-- the registrar's definitions
pub record IsAllKept {D : Type 0} (images : D → List ℕ → Type 0) (disk : D) (s : Store) : Type 0 where
  pub end : EndsAlone (view s.pass) s.file.flusher.count
  pub line : IsLineAt (view s.pass) s.file.flusher.count s.file.flusher.line
  pub catalog : (i : List ℕ) → images disk i
      → KeepsCatalog s.log.shape s.registrar.catalog s.file.flusher.line i
