-- What was put after the others, with what is left, is all.
use Rattle.std.proofs.Common.{◌≡◌, ◌++◌, length, reverse}
use Rattle.fish_run.proofs.saying.ItemList.push_all.Given as goal

abbrev pub invariant-loop-item : goal.invariant-loop-item
invariant-loop-item l = l.self ++ reverse l.reversed.items ≡ l.fn.self ++ reverse l.fn.reversed.items

abbrev pub decreases-loop-item : goal.decreases-loop-item
decreases-loop-item l = length l.reversed.items
