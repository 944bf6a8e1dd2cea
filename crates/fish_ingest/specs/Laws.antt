-- What ingests say together, and of the closed log.
use Rattle.std.specs.Prelude.{ℕ, ◌≡◌, ◌+◌, ◌<◌, ◌≤◌, List, Some, slice_get}
use Rattle.fish_catalog.specs.declared.entry.Entry.TheVariants as entry
use Rattle.fish_ingest.specs.Ingestion.{HasIngested}
use Rattle.fish_ingest.specs.Passing.{HasMark}
use Rattle.fish_rule.specs.ClosedLog.{IsClosed}
use Rattle.fish_rule.specs.Logs.{Learns}
use Rattle.fish_rule.specs.Table.{IsOfMoment}
use Rattle.fish_rule.specs.declared.close.Remains.{Remains}
use Rattle.fish_rule.specs.declared.view.Shut.{Shut}
use Rattle.fish_rule.specs.declared.view.View.{View}
use Rattle.fish_value.specs.declared.field.Form.{Form}

-- what was ingested is the entry at its number in each log that is closed for a pass that knows as much
abbrev pub IngestedIsClosed : Type 0
IngestedIsClosed = (v u x : View) (form : Form) (payload : List ℕ) (i : ℕ) (remains : Remains)
    → HasIngested v form payload (x.about.number + i) u → Learns u x → IsClosed x remains
    → slice_get remains.log i ≡ Some (entry.Stored v.lane form payload)

-- of two ingests, the later by a pass that knows what the earlier one's knew, the later has the greater number
abbrev pub IngestedAscend : Type 0
IngestedAscend = (a b c d : View) (form form' : Form) (payload payload' : List ℕ) (m n : ℕ)
    → HasIngested a form payload m b → Learns b c → HasIngested c form' payload' n d → m < n

-- two passes were shut by these claims, which are what `Full` says of each, and in some moment a pass knows what both
-- know, as it does after their join
pub record AreShut (v u x : View) (s t : Shut) : Type 0 where
  pub first : HasMark v s
  pub second : HasMark u t
  pub with_first : Learns v x
  pub with_second : Learns u x
  pub stands : IsOfMoment x

-- two refusals with one line have as many lines
abbrev pub FullAgrees : Type 0
FullAgrees = (v u x : View) (s t : Shut) → AreShut v u x s t → s.line ≡ t.line → s.lines ≡ t.lines

-- and of two others the one with the lower line ends at or before the line of the other
abbrev pub FullFollows : Type 0
FullFollows = (v u x : View) (s t : Shut) → AreShut v u x s t → s.line < t.line → s.line + s.lines ≤ t.line
