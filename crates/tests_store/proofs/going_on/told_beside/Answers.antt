-- The pages that are kept and the disk may go to a thread.
use Rattle.std.proofs.Crossing.{crosses}
use denote.Param.Send.{sendable}
use Rattle.fish_cold.proofs.cold.Cold.TheSendSync.{the_send as cold_send}
use Rattle.fish_disk.proofs.memory.MemoryDisk.TheSendSync.{the_send as disk_send}
use Rattle.tests_store.proofs.going_on.told_beside.Goals as goal

pub join_mut-told-requires-send-F : goal.join_mut-told-requires-send-F
join_mut-told-requires-send-F g c κs within = search (sendable, crosses, cold_send, disk_send) depth 20
