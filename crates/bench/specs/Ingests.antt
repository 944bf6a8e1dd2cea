-- When a lane may ingest payloads.
use Rattle.bench.specs.declared.ingests.IngestLane.{IngestLane}
use Rattle.fish_ingest.specs.Ingestion.{CanIngest}
use Rattle.fish_rule.specs.declared.table.Log.{Log}

-- its pass steps on the log and isn't entered, and its definitions are those that the pass read
abbrev pub IsIngestLane : Log → IngestLane → Type 0
IsIngestLane log lane = CanIngest log lane.pass lane.defs
