-- A log may be shared by threads. The search for it, which is done anew wherever a thread is given a log,
-- doesn't go deep enough by itself.
use Rattle.std.proofs.Crossing.{crosses, frees, send as heap_send, sync as heap_sync}
use denote.Builtin.{bool}
use denote.Param.Send.{IsSend, IsSync, recorded_sync, sendable, struct_sync}
use denote.Struct.Declared.{shape}
use Rattle.atomic_table.proofs.owned.Table.TheSendSync.{the_field_sync as table_sync}
use Rattle.fish_rule.proofs.table.Shape.TheSendSync.{the_field_sync as shape_sync}
use Rattle.fish_rule.specs.contracts.table.Log.{the_field as log_field, the_row as log_row, the_type as log_type}
use Rattle.fish_rule.specs.contracts.table.LogRuleTableRuleBoolViewKey.TheImpl.{ghosts as rule_ghosts}
use Rattle.std.specs.contracts.impls.GlobalAllocator.TheImpl.{ghosts as heap_ghosts}
use Rattle.fish_rule.specs.contracts.table.LogRule.{the_row as rule_row}
use Rattle.fish_rule.specs.contracts.view.Key.{the_field as key_field, the_row as key_row}
use Rattle.fish_rule.specs.contracts.view.View.{the_row as view_row}
use Rattle.std.specs.contracts.alloc.Global.{the_row as heap_row}

-- the numbers of a key are plain, and a snapshot of its definitions owns nothing
key_sync : IsSync key_field.row
key_sync = search (sendable, crosses) depth 20

-- a truth value may go anywhere
bool_send : IsSend bool
bool_send = search (sendable, crosses) depth 20

-- so a log's fields may be shared
log_field_sync : IsSync log_field.row
log_field_sync = struct_sync (shape log_type) (
  table_sync bool view_row key_row rule_row heap_row rule_ghosts heap_ghosts bool_send heap_send heap_sync (record { frees = frees.frees }),
  (key_sync, (shape_sync, tt)),
)

-- and the log
pub log_sync : IsSync log_row
log_sync = recorded_sync _ _ _ log_type.to_one log_field_sync
