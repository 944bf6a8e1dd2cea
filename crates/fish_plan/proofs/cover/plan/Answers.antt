-- One piece more.
use Rattle.fish_plan.proofs.Building.{built_next}
use Rattle.fish_plan.proofs.cover.plan.Goals as goal

pub loop-end-preserved : goal.loop-end-preserved
loop-end-preserved c =
    rw (c.in_ok-push-2.ensures.ok, c.from-end.ensures)
    (built_next c.loop-end.pieces c.args.from c.loop-end.end c.args.settled c.args.to c.args.intervals.now c.next_piece-piece.result
    c.loop-end.invariant c.loop-end-test.true c.next_piece-piece.ensures)
