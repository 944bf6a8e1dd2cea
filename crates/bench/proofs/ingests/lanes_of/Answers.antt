-- The passes that are left stay ready, and the new lane may run.
use Rattle.std.proofs.Common.{All, Some, sym, subst}
use Rattle.std.proofs.lemmas.List.Elements.{All-pop, All-push}
use Rattle.bench.specs.Ingests.{IsIngestLane}
use Rattle.bench.specs.Opening.{IsReady}
use Rattle.bench.proofs.ingests.lanes_of.Goals as goal

pub loop-pass-preserved : goal.loop-pass-preserved
loop-pass-preserved c =
    let log = c.args.log.now in
    let before = c.loop-pass.invariant in
    let popped = All-pop (IsReady log) c.loop-pass.passes.items c.pop.new.self.items (Some c.in-Some.pass)
    c.in-Some.ensures.items before.left in
    let pushed = All-push (IsIngestLane log) c.loop-pass.lanes.items c.lane_of.result before.made
    (c.lane_of.ensures log popped.1) in
    record { left = popped.0; made = subst (All (IsIngestLane log)) (sym c.in_ok-push.ensures.items) pushed }
