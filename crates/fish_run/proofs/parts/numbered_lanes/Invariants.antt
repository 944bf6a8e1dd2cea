-- The lanes so far are new ones.
use Rattle.fish_run.specs.within.Parts.{AreNewLanes}
use Rattle.fish_run.proofs.parts.numbered_lanes.Given as goal

abbrev pub invariant-loop-index : goal.invariant-loop-index
invariant-loop-index l = AreNewLanes l.index l.lanes.items
