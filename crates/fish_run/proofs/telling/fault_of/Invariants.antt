-- The lanes so far stopped at no fault.
use Rattle.std.proofs.Common.{◌≡◌, ◌<◌, ℕ, Some, slice_get}
use Rattle.fish_lanes.specs.declared.lane.Lane.{Lane}
use Rattle.fish_lanes.specs.declared.work.LaneFault.TheVariants as fault
use Rattle.fish_run.proofs.telling.fault_of.Given as goal

abbrev pub invariant-loop-lane : goal.invariant-loop-lane
invariant-loop-lane l = (i : ℕ) (x : Lane) → i < l.lane-index → slice_get l.lanes i ≡ Some x → x.fault ≡ fault.None
