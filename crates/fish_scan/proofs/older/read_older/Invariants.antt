-- The numbers from this one on were read.
use Rattle.std.proofs.Common.{◌≤◌}
use Rattle.fish_cold.specs.Carries.{CarriesTable}
use Rattle.fish_lang.specs.Definition.{definition_of}
use Rattle.fish_rule.specs.declared.view.Key.{Key}
use Rattle.fish_scan.specs.Colder.{StaysCold}
use Rattle.fish_scan.specs.within.OlderReading.{HasReadOlder}
use Rattle.fish_scan.proofs.older.read_older.Given as goal

abbrev pub invariant-loop-number : goal.invariant-loop-number
invariant-loop-number g l = record {
  above : l.stretch.from ≤ l.number;
  below : l.number ≤ l.stretch.to;
  stays : StaysCold g.D.Disk l.fn.cold l.cold l.fn.disk l.disk;
  read : (k : Key) (h : CarriesTable (g.D.Disk.content l.disk) k l.fn.cold) → HasReadOlder h.prior (definition_of l.query.def)
      l.query.value l.number l.stretch.to l.fn.rows l.rows l.fn.parses l.parses l.fn.loads l.loads;
}

abbrev pub decreases-loop-number : goal.decreases-loop-number
decreases-loop-number g l = l.number
