-- One load is counted a turn.
use Rattle.std.proofs.Common.{◌≡◌, ◌+◌}
use Rattle.fish_walk.proofs.reading.count.Given as goal

abbrev pub invariant-loop : goal.invariant-loop
invariant-loop g l = l.loads ≡ l.fn.loads + l.counter
