-- What is left of the others is still to be added.
use Rattle.std.proofs.Common.{◌≡◌, drop}
use Rattle.fish_cold.specs.Starts.{with_starts}
use Rattle.fish_cold.proofs.starts.joined.Given as goal

abbrev pub invariant-loop-start : goal.invariant-loop-start
invariant-loop-start l = with_starts l.all (drop l.start-index l.more) ≡ with_starts l.starts l.more
