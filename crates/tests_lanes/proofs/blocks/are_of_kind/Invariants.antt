-- No more rows are left than there are.
use Rattle.std.specs.Prelude.{◌≤◌, length}
use Rattle.tests_lanes.proofs.blocks.are_of_kind.Given as goal

abbrev pub invariant-loop-number : goal.invariant-loop-number
invariant-loop-number l = l.left ≤ length l.fn.rows
