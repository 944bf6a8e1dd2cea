-- The lanes so far have said nothing.
use Rattle.std.proofs.Common.{◌≡◌, take}
use Rattle.fish_run.specs.Joins.{nothing_said}
use Rattle.fish_run.proofs.saying.say_nothing.Given as goal

abbrev pub invariant-loop-lane : goal.invariant-loop-lane
invariant-loop-lane l = l.said.items ≡ nothing_said (take l.lane-index l.lanes)
