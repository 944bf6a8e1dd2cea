-- The items of the lanes so far were written.
use Rattle.std.proofs.Common.{◌≤◌, take}
use Rattle.std.specs.List.{flat_map}
use Rattle.fish_outside.specs.Content.{Gained}
use Rattle.fish_report.specs.ReportText.{report_text}
use Rattle.fish_run.specs.Reports.{lane_items}
use Rattle.fish_run.proofs.telling.write_lanes.Given as goal

abbrev pub invariant-loop-lane : goal.invariant-loop-lane
invariant-loop-lane g l = record {
  written : Gained (g.W.Sink.written l.fn.out) (g.W.Sink.written l.out)
      (report_text (flat_map (lane_items l.several l.end) (take l.lane-index l.said)));
  later : g.W.Sink.faults l.fn.out ≤ g.W.Sink.faults l.out;
}
