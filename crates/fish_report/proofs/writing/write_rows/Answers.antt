-- One row more.
use Rattle.std.proofs.Common.{arith}
use Rattle.std.specs.Prelude.{string_bytes}
use Rattle.fish_report.specs.Parts.{row_text}
use Rattle.fish_report.proofs.WritingLemmas.{PassesPart_more, Passes_more, on_err_any}
use Rattle.fish_report.proofs.writing.write_rows.Goals as goal

pub returns-in_err-write_row-clause-part : goal.returns-in_err-write_row-clause-part
returns-in_err-write_row-clause-part g c =
    let written = g.W.Sink.written in
    on_err_any c.from_residual.result
    (PassesPart_more row_text c.args.rows.now c.loop-row.row-index c.row-item.result (written c.args.out.now)
    (written c.loop-row.out) (written c.write_row.new.out) (string_bytes c.args.text.now) (string_bytes c.loop-row.text)
    (omega arith) c.row-item.is c.loop-row.invariant.passed c.in_err-write_row.ensures.part)

pub loop-row-preserved : goal.loop-row-preserved
loop-row-preserved g c =
    let written = g.W.Sink.written in
    record {
      passed = Passes_more row_text c.args.rows.now c.loop-row.row-index c.row-item.result (written c.args.out.now)
          (written c.loop-row.out) (written c.write_row.new.out) (string_bytes c.args.text.now)
          (string_bytes c.loop-row.text) (string_bytes c.write_row.new.text) (omega arith) c.row-item.is
          c.loop-row.invariant.passed c.in_ok-write_row.ensures.passed;
      short = c.in_ok-write_row.ensures.short;
      later = omega (arith, c.write_row.ensures.cause.later);
    }
