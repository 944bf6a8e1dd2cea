-- The sink got a first part of the text of the items so far, and the rest of it waits.
use Rattle.std.proofs.Common.{◌≤◌, [], take}
use Rattle.std.specs.Prelude.{string_bytes}
use Rattle.fish_report.specs.ReportText.{report_text}
use Rattle.fish_report.specs.within.Writing.{PassesOn}
use Rattle.fish_report.proofs.writing.write_items.Given as goal

abbrev pub invariant-loop-item : goal.invariant-loop-item
invariant-loop-item g l = record {
  passed : PassesOn (g.W.Sink.written l.fn.out) (g.W.Sink.written l.out) [] (string_bytes l.text)
      (report_text (take l.item-index l.items));
  later : g.W.Sink.faults l.fn.out ≤ g.W.Sink.faults l.out;
}
