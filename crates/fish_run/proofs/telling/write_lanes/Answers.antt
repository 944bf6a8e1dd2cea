-- One lane more.
use Rattle.std.proofs.Common.{arith}
use Rattle.fish_run.proofs.Written.{on_err_any, part_more, written_more}
use Rattle.fish_run.specs.Reports.{lane_items}
use Rattle.fish_run.proofs.telling.write_lanes.Goals as goal

pub returns-in_err-write_lane-clause-part : goal.returns-in_err-write_lane-clause-part
returns-in_err-write_lane-clause-part g c =
    let written = g.W.Sink.written in
    on_err_any c.from_residual.result
    (part_more (lane_items c.args.several c.args.end) (written c.args.out.now) (written c.loop-lane.out)
    (written c.write_lane.new.out) c.args.said.now c.loop-lane.lane-index c.lane-item.result (omega arith) c.lane-item.is
    c.loop-lane.invariant.written c.in_err-write_lane.ensures.part)

pub loop-lane-preserved : goal.loop-lane-preserved
loop-lane-preserved g c =
    let written = g.W.Sink.written in
    record {
      written = written_more (lane_items c.args.several c.args.end) (written c.args.out.now) (written c.loop-lane.out)
          (written c.write_lane.new.out) c.args.said.now c.loop-lane.lane-index c.lane-item.result (omega arith) c.lane-item.is
          c.loop-lane.invariant.written c.in_ok-write_lane.ensures.written;
      later = omega (arith, c.write_lane.ensures.cause.later);
    }
