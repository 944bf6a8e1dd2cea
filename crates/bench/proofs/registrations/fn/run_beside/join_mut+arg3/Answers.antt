-- The log may be shared by threads, and a lane may go to one.
use denote.Param.Send.{sendable}
use Rattle.bench.proofs.Sending.{lane_send}
use Rattle.fish_rule.proofs.laws.Crossing.{log_sync}
use Rattle.bench.proofs.registrations.fn.run_beside.join_mut+arg3.Goals as goal

pub time_lanes-requires-sync-S : goal.time_lanes-requires-sync-S
time_lanes-requires-sync-S g c κs within = search (sendable, log_sync)

pub time_lanes-requires-send-L : goal.time_lanes-requires-send-L
time_lanes-requires-send-L g c κs within = search (sendable, lane_send)
