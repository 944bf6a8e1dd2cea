-- The words so far are placed, where those to come are.
use Rattle.std.proofs.Common.{◌≡◌, length}
use Rattle.fish_command.specs.within.Reading.{are_placed}
use Rattle.fish_command.proofs.line.are_placed.Given as goal

abbrev pub invariant-loop-rest : goal.invariant-loop-rest
invariant-loop-rest l = are_placed l.words ≡ are_placed l.rest

abbrev pub decreases-loop-rest : goal.decreases-loop-rest
decreases-loop-rest l = length l.rest
