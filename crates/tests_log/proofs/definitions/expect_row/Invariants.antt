-- The pass stays one of the log, and the row is there.
use Rattle.std.specs.Prelude.{◌<◌, length}
use Rattle.fish_rule.specs.Passes.{IsPassOf, view}
use Rattle.tests_log.proofs.definitions.expect_row.Given as goal

abbrev pub invariant-loop-place : goal.invariant-loop-place
invariant-loop-place g l = IsPassOf l.log l.pass × (0 < length (view l.pass).about.rows.value)
