-- The control pass, the store's file and the lanes may go to threads, and the log and the gate may be shared. The search looks
-- through all that is known here, and gives up; so each bound has a name of its own, and `c` is hidden from it.
use Rattle.std.proofs.Crossing.{crosses}
use denote.Param.Send.{sendable}
use Rattle.fish_lanes.proofs.Crossing.{lane_send}
use Rattle.fish_registry.proofs.registrar.Registrar.TheSendSync.{the_send as registrar_send}
use Rattle.fish_rule.proofs.laws.Crossing.{log_sync}
use Rattle.fish_rule.proofs.table.Pass.TheSendSync.{the_send as pass_send}
use Rattle.fish_store.proofs.file.StoreFile.TheSendSync.{the_send as file_send}
use Rattle.fish_lanes.proofs.block.run_all.Goals as goal

pub join_mut-requires-send-F : goal.join_mut-requires-send-F
join_mut-requires-send-F g c κs within =
    let disk = c.type_bounds.send-D in
    let gate = c.type_bounds.sync-G in
    let c : Unit {0} = tt in
    search (sendable, crosses, log_sync, pass_send, lane_send, registrar_send, file_send) depth 20
