-- The pass stays one of the log.
use Rattle.fish_rule.specs.Passes.{IsPassOf}
use Rattle.bench.proofs.selections.time_full.Given as goal

abbrev pub invariant-loop-kind : goal.invariant-loop-kind
invariant-loop-kind g l = IsPassOf l.log l.control
