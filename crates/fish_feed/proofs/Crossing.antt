-- What a lane is still to be given may go to a thread, where its feeds may. The search for it doesn't go deep enough by itself.
use Rattle.std.proofs.Crossing.{crosses}
use denote.Enum.Declared.{shape as variants}
use denote.Param.Send.{IsSend, enum_send, recorded_send, sendable, struct_send}
use denote.RattleType.{RattleType}
use denote.Struct.Declared.{shape}
use Rattle.fish_feed.proofs.part.OpenFile.TheSendSync.{the_field_send as file_send}
use Rattle.fish_feed.specs.contracts.queue.Queue.{the_row as queue_row, the_type as queue_type}
use Rattle.fish_feed.specs.contracts.queue.Todo.{the_field as todo_field, the_type as todo_type}
use Rattle.fish_lang.proofs.definition.Cond.TheLaws.TheKnot.{send-Cond}
use Rattle.fish_lanes.specs.contracts.work.Work.{the_field as work_field}
use Rattle.fish_value.proofs.path.Path.TheSendSync.{the_send as path_send}
use Rattle.fish_value.proofs.text.Text.TheSendSync.{the_send as text_send}

-- a statement, whose definition may have conditions inside
work_send : IsSend work_field.row
work_send = search (sendable, crosses, send-Cond, path_send, text_send) depth 40 fits 4000

todo_send : (F : RattleType) → IsSend F → IsSend (todo_field F).row
todo_send F feed = enum_send (variants (todo_type F)) ((work_send, tt), ((file_send F feed, tt), tt))

pub queue_send : (F : RattleType) → IsSend F → IsSend (queue_row F)
queue_send F feed = recorded_send _ _ _ (queue_type F).to_one (struct_send (shape (queue_type F)) (
  search (sendable, crosses, file_send) depth 20,
  (search (sendable, crosses, todo_send) depth 20, tt),
))
