-- No more scans were right than items seen.
use Rattle.std.specs.Prelude.{◌≤◌}
use Rattle.tests_lanes.proofs.blocks.right_scans.Given as goal

abbrev pub invariant-loop-item : goal.invariant-loop-item
invariant-loop-item l = l.right ≤ l.item-index
