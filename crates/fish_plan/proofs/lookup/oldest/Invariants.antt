-- What was found is the oldest of the intervals so far.
use Rattle.std.proofs.Common.{take}
use Rattle.fish_plan.specs.within.Next.{IsOldestOf}
use Rattle.fish_plan.proofs.lookup.oldest.Given as goal

abbrev pub invariant-loop-interval : goal.invariant-loop-interval
invariant-loop-interval l = IsOldestOf (take l.interval-index l.intervals) l.number l.found
