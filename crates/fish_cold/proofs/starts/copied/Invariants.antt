-- The starts so far.
use Rattle.std.proofs.Common.{◌≡◌, take}
use Rattle.fish_cold.proofs.starts.copied.Given as goal

abbrev pub invariant-loop-start : goal.invariant-loop-start
invariant-loop-start l = l.all ≡ take l.start-index l.starts
