-- There is a lane for each script so far.
use Rattle.tests_lanes.specs.Blocks.{AreNew}
use Rattle.tests_lanes.proofs.scripts.push_lanes.Given as goal

abbrev pub invariant-loop-i : goal.invariant-loop-i
invariant-loop-i l = AreNew l.i l.lanes.items
