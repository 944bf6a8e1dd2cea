-- A lane may go to a thread, and the log may be shared.
use Rattle.std.proofs.Common.{sym, subst}
use Rattle.std.proofs.Crossing.{crosses}
use denote.Param.Send.{sendable}
use Rattle.fish_lanes.proofs.Crossing.{lane_send}
use Rattle.fish_lanes.specs.within.Running.{IsLaneReady}
use Rattle.fish_rule.proofs.laws.Crossing.{log_sync}
use Rattle.fish_lanes.proofs.block.run_others.Goals as goal

pub for_each_mut-requires-send-T : goal.for_each_mut-requires-send-T
for_each_mut-requires-send-T g c κs within = search (sendable, crosses, lane_send) depth 20

pub for_each_mut-requires-sync-F : goal.for_each_mut-requires-sync-F
for_each_mut-requires-sync-F g c κs within =
    let gate = c.type_bounds.sync-G in
    let c : Unit {0} = tt in
    search (sendable, crosses, log_sync) depth 20

pub for_each_mut-requires-clause-accepts : goal.for_each_mut-requires-clause-accepts
for_each_mut-requires-clause-accepts g c κs within i p less is _ _ _ _ _ _ _ _ _ _ =
    subst (IsLaneReady c.args.log.now) (sym is) (c.requires.ready i p.now less)
