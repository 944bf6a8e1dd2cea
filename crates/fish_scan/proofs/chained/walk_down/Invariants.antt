-- The walk stands at the head of what is left of the bucket, and what it passed gave the rows.
use Rattle.std.proofs.Common.{◌≢◌, ℕ, ◌*◌, ◌<◌, ◌≤◌}
use Rattle.fish_cold.specs.Carries.{CarriesTable}
use Rattle.fish_lang.specs.Definition.{definition_of}
use Rattle.fish_rule.specs.declared.view.Key.{Key}
use Rattle.fish_scan.proofs.OlderDown.{IsDown}
use Rattle.fish_scan.specs.Colder.{StaysCold}
use Rattle.fish_scan.specs.within.OlderReading.{IsHeadOf}
use Rattle.fish_scan.proofs.chained.walk_down.Given as goal

abbrev pub invariant-down : goal.invariant-down
invariant-down g l = record {
  stays : StaysCold g.D.Disk l.fn.cold l.cold l.fn.disk l.disk;
  lower : l.place ≢ 0 → l.place < 4 * l.fn.cold.base.line;
  under : l.below ≤ l.base;
  least : l.stretch.from ≤ l.below;
  down : (k : Key) (h : CarriesTable (g.D.Disk.content l.disk) k l.fn.cold) (b : ℕ) → IsHeadOf h b l.head
      → IsDown h.prior b l.id (definition_of l.query.def) l.query.value l.stretch.from l.stretch.to l.place l.below l.to l.fn.rows
      l.rows l.fn.loads l.loads;
}

abbrev pub decreases-down : goal.decreases-down
decreases-down g l = l.place
