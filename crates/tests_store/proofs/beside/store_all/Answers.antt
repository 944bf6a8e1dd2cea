-- The log may be shared.
use Rattle.std.proofs.Crossing.{crosses}
use denote.Param.Send.{sendable}
use Rattle.fish_rule.proofs.laws.Crossing.{log_sync}
use Rattle.tests_store.proofs.beside.store_all.Goals as goal

pub for_each_mut-requires-sync-F : goal.for_each_mut-requires-sync-F
for_each_mut-requires-sync-F g c κs within = search (sendable, crosses, log_sync) depth 20
