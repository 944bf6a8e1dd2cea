-- A pass that scanned between two records may ingest again.
use Rattle.fish_epoch.specs.Definitions.{IsDefsOf}
use Rattle.fish_epoch.specs.declared.definitions.Defs.{Defs}
use Rattle.fish_ingest.specs.Ingestion.{CanIngest}
use Rattle.fish_rule.specs.Passes.{IsPassOf, view}
use Rattle.fish_rule.specs.declared.table.Log.{Log}
use Rattle.fish_rule.specs.declared.table.Pass.{Pass}
use Rattle.fish_scan.specs.Scans.{OnlyScans}

-- it is out, as before the scan
pub ready_again : (log : Log) (p q : Pass) (defs after : Defs) → CanIngest log p defs → IsPassOf log q
    → OnlyScans (view p) (view q) → IsDefsOf (view q) after → CanIngest log q after
ready_again log p q defs after can of only read = record {
  of = of;
  start = record { live = of.live; outside = only.outside can.start.outside };
  read = read;
}
