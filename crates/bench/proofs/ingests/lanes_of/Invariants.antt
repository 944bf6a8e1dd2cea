-- The passes that are left are ready, and the lanes so far may run.
use Rattle.std.proofs.Common.{All, length}
use Rattle.bench.specs.Ingests.{IsIngestLane}
use Rattle.bench.specs.Opening.{IsReady}
use Rattle.bench.proofs.ingests.lanes_of.Given as goal

abbrev pub invariant-loop-pass : goal.invariant-loop-pass
invariant-loop-pass l = record {
  left : All (IsReady l.log) l.passes.items;
  made : All (IsIngestLane l.log) l.lanes.items;
}

abbrev pub decreases-loop-pass : goal.decreases-loop-pass
decreases-loop-pass l = length l.passes.items
