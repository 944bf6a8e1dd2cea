-- The words so far are those from the first on.
use Rattle.std.proofs.Common.{◌≡◌, ◌+◌, map, get_or}
use Rattle.std.specs.List.{range_with_len}
use Rattle.std.specs.Vec.{vec_capacity}
use Rattle.core.specs.Mem.Slots.{slots_items}
use Rattle.fish_rule.proofs.kept.region_of.Given as goal

abbrev pub invariant-loop-offset : goal.invariant-loop-offset
invariant-loop-offset l = record {
  room : vec_capacity l.words ≡ l.size;
  read : l.words.items ≡ map (λ i. get_or (slots_items l.closed.words) (l.first + i) 0) (range_with_len 0 l.offset);
}
