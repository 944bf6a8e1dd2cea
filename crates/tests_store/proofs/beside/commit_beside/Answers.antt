-- The log may be shared, and the control pass and the disk may go to a thread.
use Rattle.std.proofs.Crossing.{crosses}
use denote.Param.Send.{sendable}
use Rattle.fish_disk.proofs.memory.MemoryDisk.TheSendSync.{the_send as disk_send}
use Rattle.fish_rule.proofs.laws.Crossing.{log_sync}
use Rattle.tests_store.proofs.Crossing.{control_send}
use Rattle.tests_store.proofs.beside.commit_beside.Goals as goal

pub join_mut-rises-requires-send-F : goal.join_mut-rises-requires-send-F
join_mut-rises-requires-send-F g c κs within = search (sendable, crosses, log_sync, control_send, disk_send) depth 20
