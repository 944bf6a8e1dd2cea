-- The passes that are left stay ready, and the new lane may run.
use Rattle.std.proofs.Common.{All, Some, sym, subst}
use Rattle.std.proofs.lemmas.List.Elements.{All-pop, All-push}
use Rattle.bench.specs.Opening.{IsReady}
use Rattle.bench.specs.Stores.{IsStoreLane}
use Rattle.bench.proofs.stores.lanes_of.Goals as goal

pub loop-pass-preserved : goal.loop-pass-preserved
loop-pass-preserved c =
    let log = c.args.log.now in
    let before = c.loop-pass.invariant in
    let popped = All-pop (IsReady log) c.loop-pass.passes.items c.pop.new.self.items (Some c.in-Some.pass)
    c.in-Some.ensures.items before.left in
    let pushed = All-push (IsStoreLane log) c.loop-pass.lanes.items c.in_ok-lane_of.field-0 before.made
    c.in_ok-lane_of.ensures in
    record { left = popped.0; made = subst (All (IsStoreLane log)) (sym c.in_ok-push.ensures.items) pushed }
