-- What a run tells of the whole log, by the rounds of its blocks. What private clauses need of it.
use Rattle.std.specs.Prelude.{List}
use Rattle.fish_lanes.specs.Blocks.{NameMarks}
use Rattle.fish_rule.specs.Views.{Among}
use Rattle.fish_rule.specs.declared.view.View.{View}
use Rattle.fish_run.specs.Blocks.{Round}

-- ---- faults

-- all refusals by a full log name marks
abbrev pub AreMarked : View → List Round → Type 0
AreMarked u rounds = (b : Round) → Among b rounds → NameMarks u b.lanes
