-- What a lane is still to be given. What private clauses need of it.
use Rattle.std.specs.Prelude.{ℕ, ◌≡◌, ◌≢◌, ◌<◌, List, Bool, Option, None, Some, length, slice_index_or}
use Rattle.fish_feed.specs.OpenFiles.{CanRead}
use Rattle.fish_feed.specs.declared.part.OpenFile.{OpenFile}
use Rattle.fish_feed.specs.declared.queue.Queue.{Queue}
use Rattle.fish_feed.specs.within.OpenFiles.{ReadsOnFile}
use Rattle.fish_script.specs.declared.script.Statement.TheVariants as does
use Rattle.fish_script.specs.declared.script.Statement.{Statement}
use Rattle.fish_value.specs.declared.field.Form.{Form}

-- the statement stores no file
abbrev pub HasNoFile : Statement → Type 0
HasNoFile s = (form : Form) (header : Bool) (name : List ℕ) → s ≢ does.Ingest form header name

-- more came of the file that is being read, if one is, which may be read further
abbrev pub FileReadOn
    : {F : Type 0} → (F → Option (List ℕ)) → (F → ℕ) → Option (OpenFile F) → Option (OpenFile F) → Type 0
FileReadOn left faults None c = c ≡ None
FileReadOn {F = F} left faults (Some o) c = (u : OpenFile F) × (c ≡ Some u) × ReadsOnFile left o u × CanRead faults u

-- the queue is else the same
pub record IsReadOn {F : Type 0} (left : F → Option (List ℕ)) (faults : F → ℕ) (q r : Queue F) : Type 0 where
  pub current : FileReadOn left faults q.current r.current
  pub todos_is : r.todos ≡ q.todos

-- and so of each queue
pub record AreReadOn {F : Type 0} (left : F → Option (List ℕ)) (faults : F → ℕ) (old new : List (Queue F))
    : Type 0 where
  pub many : length new ≡ length old
  pub each : (i : ℕ) (d : Queue F) → i < length old
      → IsReadOn left faults (slice_index_or old i d) (slice_index_or new i d)
