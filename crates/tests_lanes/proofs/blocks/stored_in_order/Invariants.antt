-- No more records were counted than entries seen.
use Rattle.std.specs.Prelude.{◌≤◌}
use Rattle.tests_lanes.proofs.blocks.stored_in_order.Given as goal

abbrev pub invariant-loop-entry : goal.invariant-loop-entry
invariant-loop-entry l = l.position ≤ l.entry-index
