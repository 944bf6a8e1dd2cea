-- The end that was found is that of the intervals so far.
use Rattle.std.proofs.Common.{take}
use Rattle.fish_plan.specs.within.Next.{IsLowEnd}
use Rattle.fish_plan.proofs.lookup.low_end.Given as goal

abbrev pub invariant-loop-interval : goal.invariant-loop-interval
invariant-loop-interval l = IsLowEnd (take l.interval-index l.intervals) l.from l.end l.low
