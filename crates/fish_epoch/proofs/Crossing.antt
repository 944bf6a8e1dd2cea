-- The definitions that a lane keeps may go to another thread. The search for it, which is done anew wherever a thread
-- is given a lane, doesn't go deep enough by itself.
use Rattle.std.proofs.Crossing.{crosses}
use denote.Param.Send.{IsSend, sendable, struct_send}
use denote.Struct.Declared.{shape}
use Rattle.fish_catalog.proofs.listed.Listed.TheSendSync.{the_send as listed_send}
use Rattle.fish_epoch.specs.contracts.definitions.Defs.{the_field as defs_field}
use Rattle.fish_epoch.specs.contracts.definitions.Defs.{the_type as defs_type}
use Rattle.fish_epoch.specs.contracts.definitions.Known.{the_field as known_field}
use Rattle.fish_lang.proofs.definition.Cond.TheLaws.TheKnot.{send-Cond}
use Rattle.fish_psf.specs.contracts.key.ActiveDef.{the_row as active_row}
use Rattle.fish_read.proofs.reader.RecordReader.TheSendSync.{the_field_send as reader_send}
use Rattle.fish_value.proofs.path.Path.TheSendSync.{the_send as path_send}
use Rattle.fish_value.proofs.text.Text.TheSendSync.{the_send as text_send}

-- a definition, whose condition may have others inside
active_send : IsSend active_row
active_send = search (sendable, crosses, send-Cond, path_send, text_send) depth 40

-- the definitions that were read
known_send : IsSend known_field.row
known_send = search (sendable, crosses, listed_send, active_send) depth 40

-- their fields, with the reader's memory
pub defs_field_send : IsSend defs_field.row
defs_field_send = struct_send (shape defs_type) (known_send, (reader_send, tt))
