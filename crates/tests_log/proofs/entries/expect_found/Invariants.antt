-- The pass stays one of the log.
use Rattle.fish_rule.specs.Passes.{IsPassOf}
use Rattle.tests_log.proofs.entries.expect_found.Given as goal

abbrev pub invariant-loop-number : goal.invariant-loop-number
invariant-loop-number g l = IsPassOf l.log l.pass
