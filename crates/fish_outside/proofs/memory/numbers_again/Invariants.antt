-- The copy has the numbers so far.
use Rattle.std.proofs.Common.{◌≡◌, take}
use Rattle.fish_outside.proofs.memory.numbers_again.Given as goal

abbrev pub invariant-loop-number : goal.invariant-loop-number
invariant-loop-number l = l.copy ≡ take l.number-index l.numbers
