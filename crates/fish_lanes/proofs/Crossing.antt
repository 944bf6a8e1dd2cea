-- A lane may go to a thread.
use Rattle.std.proofs.Crossing.{crosses}
use denote.Param.Send.{IsSend, sendable}
use Rattle.fish_lang.proofs.definition.Cond.TheLaws.TheKnot.{send-Cond}
use Rattle.fish_rule.proofs.table.Pass.TheSendSync.{the_field_send as pass_field_send}
use Rattle.fish_report.proofs.item.Item.TheSendSync.{the_send as item_send}
use Rattle.fish_lanes.specs.contracts.lane.Lane.{the_row as lane_row}
use Rattle.fish_lanes.specs.contracts.lane.LanePass.{the_row as seated_row}
use Rattle.fish_lanes.specs.contracts.work.Work.{the_row as work_row}
use Rattle.fish_scan.proofs.ask.Ask.TheSendSync.{the_send as ask_send}
use Rattle.fish_value.proofs.path.Path.TheSendSync.{the_send as path_send}
use Rattle.fish_value.proofs.text.Text.TheSendSync.{the_send as text_send}

seated_send : IsSend seated_row
seated_send = search (sendable, crosses, pass_field_send) depth 30

-- a statement, whose definition may have conditions inside
work_send : IsSend work_row
work_send = search (sendable, crosses, send-Cond, path_send, text_send, ask_send) depth 40 fits 4000

pub lane_send : IsSend lane_row
lane_send = search (sendable, crosses, seated_send, work_send, item_send) depth 20
