-- A lane of ingests may go to another thread.
use Rattle.std.proofs.Crossing.{crosses}
use denote.Param.Send.{IsSend, recorded_send, sendable, struct_send}
use denote.Ref.{NamedLft}
use denote.Struct.Declared.{shape}
use Rattle.bench.specs.contracts.ingests.IngestLane.{the_row as lane_row, the_type as lane_type}
use Rattle.fish_epoch.proofs.Crossing.{defs_field_send}
use Rattle.fish_rule.proofs.table.Pass.TheSendSync.{the_field_send as pass_send}
use Rattle.fish_value.proofs.text.Text.TheSendSync.{the_sync as text_sync}

pub lane_send : (κ : NamedLft) → IsSend (lane_row κ)
lane_send κ = recorded_send _ _ _ (lane_type κ).to_one (struct_send (shape (lane_type κ)) (
  search (sendable, crosses) depth 20,
  (pass_send, (defs_field_send, (search (sendable, crosses, text_sync) depth 20, (search sendable, tt)))),
))
