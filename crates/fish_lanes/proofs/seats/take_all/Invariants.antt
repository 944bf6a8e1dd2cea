-- The passes so far came back, and the other lanes are as they were.
use Rattle.std.proofs.Common.{◌≡◌, ℕ, ◌<◌, ◌≤◌, Some, slice_get}
use Rattle.fish_lanes.specs.within.Blocks.{HasTakenAll, WasTaken}
use Rattle.fish_lanes.specs.declared.lane.Lane.{Lane}
use Rattle.fish_rule.specs.Passes.{IsPassOf, view}
use Rattle.fish_lanes.proofs.seats.take_all.Given as goal

abbrev pub invariant-loop-i : goal.invariant-loop-i
invariant-loop-i l = record {
  of : IsPassOf l.log l.control;
  taken : HasTakenAll (view l.fn.control) (view l.control) l.fn.lanes l.i;
  were : (j : ℕ) (x y : Lane) → j < l.i → slice_get l.fn.lanes j ≡ Some x → slice_get l.lanes j ≡ Some y → WasTaken x y;
  rest : (j : ℕ) → l.i ≤ j → slice_get l.lanes j ≡ slice_get l.fn.lanes j;
}
