-- So many of the items so far answer.
use Rattle.std.proofs.Common.{◌≡◌, ◌≤◌, length, take}
use Rattle.fish_lanes.specs.Spans.{answers}
use Rattle.fish_lanes.proofs.handing.answered.Given as goal

abbrev pub invariant-loop-item : goal.invariant-loop-item
invariant-loop-item l = record {
  many : l.many ≡ length (answers (take l.item-index l.items));
  few : l.many ≤ l.item-index;
}
