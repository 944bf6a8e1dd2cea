-- The pass stays one of the log, and alone.
use Rattle.fish_rule.specs.Passes.{IsPassOf, view}
use Rattle.fish_rule.specs.LoadSteps.{IsAlone}
use Rattle.tests_log.proofs.threads.walks.Given as goal

abbrev pub invariant-loop-bucket : goal.invariant-loop-bucket
invariant-loop-bucket l = IsPassOf l.log l.pass × IsAlone (view l.pass)
