-- The pass stays one of the log.
use Rattle.fish_rule.specs.Passes.{IsPassOf}
use Rattle.tests_log.proofs.settling.settled_at_the_end.Given as goal

abbrev pub invariant-loop-lines : goal.invariant-loop-lines
invariant-loop-lines l = IsPassOf l.log l.control
