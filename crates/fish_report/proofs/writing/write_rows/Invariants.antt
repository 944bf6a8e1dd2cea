-- The sink got a first part of what waited and of the rows so far, and the rest of them waits.
use Rattle.std.proofs.Common.{◌<◌, ◌≤◌, take}
use Rattle.std.specs.Prelude.{string_bytes, string_len}
use Rattle.fish_report.specs.Parts.{rows_text}
use Rattle.fish_report.specs.within.Writing.{PassesOn, piece_size}
use Rattle.fish_report.proofs.writing.write_rows.Given as goal

abbrev pub invariant-loop-row : goal.invariant-loop-row
invariant-loop-row g l = record {
  passed : PassesOn (g.W.Sink.written l.fn.out) (g.W.Sink.written l.out) (string_bytes l.fn.text) (string_bytes l.text)
      (rows_text (take l.row-index l.rows));
  short : string_len l.text < piece_size;
  later : g.W.Sink.faults l.fn.out ≤ g.W.Sink.faults l.out;
}
