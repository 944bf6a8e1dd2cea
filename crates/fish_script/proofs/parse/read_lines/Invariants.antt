-- The lines so far were read, and the text that is left gets shorter.
use Rattle.std.proofs.Common.{◌+◌, ◌≤◌, length}
use Rattle.fish_script.specs.within.Building.{IsSoFar}
use Rattle.fish_script.proofs.parse.read_lines.Given as goal

abbrev pub invariant-loop-rest : goal.invariant-loop-rest
invariant-loop-rest l = record {
  read : IsSoFar l.b l.rest l.number l.builder;
  few : l.number + length l.rest ≤ length l.b;
}

abbrev pub decreases-loop-rest : goal.decreases-loop-rest
decreases-loop-rest l = length l.rest
