-- The bytes sent so far are the first of the piece, and come after what the sink had.
use Rattle.std.proofs.Common.{◌≤◌, ◌-◌, length, take}
use Rattle.fish_outside.specs.Content.{Gained}
use Rattle.fish_outside.proofs.sink.write_whole.Given as goal

abbrev pub invariant-loop-sent : goal.invariant-loop-sent
invariant-loop-sent g l = record {
  within : l.sent ≤ length l.piece;
  gained : Gained (g.W.Sink.written l.fn.sink) (g.W.Sink.written l.sink) (take l.sent l.piece);
  later : g.W.Sink.faults l.fn.sink ≤ g.W.Sink.faults l.sink;
}

abbrev pub decreases-loop-sent : goal.decreases-loop-sent
decreases-loop-sent g l = length l.piece - l.sent
