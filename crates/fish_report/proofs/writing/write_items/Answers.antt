-- One item more, and what is left at the end.
use Rattle.std.proofs.Common.{[], arith}
use Rattle.std.proofs.lemmas.Result.{on_err_weaker}
use Rattle.std.specs.Prelude.{string_bytes}
use Rattle.fish_report.specs.ReportText.{item_text, report_text}
use Rattle.fish_report.proofs.WritingLemmas.{GainedPart_all, PassesPart_end, PassesPart_more, Passes_more, on_err_any}
use Rattle.fish_report.proofs.writing.write_items.Goals as goal

pub returns-in_err-write_item-clause-part : goal.returns-in_err-write_item-clause-part
returns-in_err-write_item-clause-part g c =
    let old = g.W.Sink.written c.args.out.now in
    let new = g.W.Sink.written c.write_item.new.out in
    on_err_any c.from_residual.result
    (GainedPart_all old new (report_text c.args.items.now)
    (PassesPart_more item_text c.args.items.now c.loop-item.item-index c.item-item.result old
    (g.W.Sink.written c.loop-item.out) new [] (string_bytes c.loop-item.text) (omega arith) c.item-item.is
    c.loop-item.invariant.passed c.in_err-write_item.ensures.part))

pub loop-item-preserved : goal.loop-item-preserved
loop-item-preserved g c =
    let written = g.W.Sink.written in
    record {
      passed = Passes_more item_text c.args.items.now c.loop-item.item-index c.item-item.result (written c.args.out.now)
          (written c.loop-item.out) (written c.write_item.new.out) [] (string_bytes c.loop-item.text)
          (string_bytes c.write_item.new.text) (omega arith) c.item-item.is c.loop-item.invariant.passed
          c.in_ok-write_item.ensures.passed;
      later = omega (arith, c.write_item.ensures.cause.later);
    }

pub returns-clause-part : goal.returns-clause-part
returns-clause-part g c =
    let old = g.W.Sink.written c.args.out.now in
    let new = g.W.Sink.written c.send.new.out in
    on_err_weaker c.send.result
    (λ part. GainedPart_all old new (report_text c.args.items.now)
    (PassesPart_end item_text c.args.items.now c.loop-item.item-index old (g.W.Sink.written c.loop-item.out) new []
    (string_bytes c.loop-item.text) (omega arith) c.loop-item.invariant.passed part)) c.send.ensures.part
