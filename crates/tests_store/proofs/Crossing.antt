-- The control pass may go to a thread, with what it keeps.
use Rattle.std.proofs.Crossing.{crosses}
use denote.Param.Send.{IsSend, sendable}
use Rattle.fish_epoch.proofs.Crossing.{defs_field_send}
use Rattle.fish_flush.proofs.flusher.Flusher.TheSendSync.{the_send as flusher_send}
use Rattle.fish_rule.proofs.seats.Start.TheSendSync.{the_send as start_send}
use Rattle.fish_rule.proofs.table.Pass.TheSendSync.{the_field_send as pass_field_send}
use Rattle.tests_store.specs.contracts.passes.Control.{the_row as control_row}

pub control_send : IsSend control_row
control_send = search (sendable, crosses, pass_field_send, start_send, defs_field_send, flusher_send) depth 30
