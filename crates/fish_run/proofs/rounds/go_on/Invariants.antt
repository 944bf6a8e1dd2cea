-- The lanes so far hand nothing back, and where a new table may be begun, none of their items tells that the old one is full.
use Rattle.std.proofs.Common.{◌≡◌, ◌<◌, ℕ, [], Some, slice_get, false, true}
use Rattle.std.specs.List.{list_any}
use Rattle.fish_lanes.specs.declared.lane.Lane.{Lane}
use Rattle.fish_run.specs.within.Turning.{says_full}
use Rattle.fish_run.proofs.rounds.go_on.Given as goal

abbrev pub invariant-loop-lane : goal.invariant-loop-lane
invariant-loop-lane l = record {
  left : (i : ℕ) (x : Lane) → i < l.lane-index → slice_get l.lanes i ≡ Some x → x.left ≡ [];
  full : l.some ≡ true → (i : ℕ) (x : Lane) → i < l.lane-index → slice_get l.lanes i ≡ Some x → list_any says_full x.items ≡ false;
}
