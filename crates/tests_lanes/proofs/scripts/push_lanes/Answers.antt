-- A lane more is made.
use Rattle.std.proofs.Common.{◌+◌, subst, sym}
use Rattle.tests_lanes.proofs.NewLanes.{new_push}
use Rattle.tests_lanes.specs.Blocks.{AreNew}
use Rattle.tests_lanes.proofs.scripts.push_lanes.Goals as goal

pub loop-i-preserved : goal.loop-i-preserved
loop-i-preserved c =
    subst (AreNew (c.loop-i.i + 1)) (sym c.in_ok-push.ensures.items)
    (new_push c.loop-i.i c.loop-i.lanes.items c.in_ok-lane.lane c.loop-i.invariant c.in_ok-lane.ensures)
