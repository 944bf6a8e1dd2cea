-- All records so far are of the lane.
use Rattle.std.proofs.Common.{All}
use Rattle.bench.specs.Stores.{IsRecordOf}
use Rattle.bench.proofs.records.records_of.Given as goal

abbrev pub invariant-loop-position : goal.invariant-loop-position
invariant-loop-position g l = All (IsRecordOf l.lane l.defs) l.records.items
