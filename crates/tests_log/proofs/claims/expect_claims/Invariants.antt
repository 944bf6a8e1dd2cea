-- The pass stays one of the log.
use Rattle.fish_rule.specs.Passes.{IsPassOf}
use Rattle.tests_log.proofs.claims.expect_claims.Given as goal

abbrev pub invariant-loop-lines : goal.invariant-loop-lines
invariant-loop-lines g l = IsPassOf l.log l.pass
