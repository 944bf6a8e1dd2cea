-- The pass stays one of the log.
use Rattle.fish_rule.specs.Passes.{IsPassOf}
use Rattle.bench.proofs.walks.walk_longest.Given as goal

abbrev pub invariant-loop-bucket : goal.invariant-loop-bucket
invariant-loop-bucket g l = IsPassOf l.log l.pass
