-- One interval more.
use Rattle.std.proofs.Common.{None}
use Rattle.fish_plan.proofs.Walks.{low_turn}
use Rattle.fish_plan.proofs.lookup.low_end.Goals as goal

pub loop-interval-preserved : goal.loop-interval-preserved
loop-interval-preserved c =
    low_turn c.args.intervals.now c.loop-interval.interval-index (record { id = 0; from = 0; to = None }) c.args.from c.args.end
    c.loop-interval.low c.raised-low.result c.loop-interval-test.true c.requires.none c.raised-low.ensures c.loop-interval.invariant
