-- A part of what waited is a part of it.
use Rattle.std.proofs.lemmas.Result.{on_err_weaker}
use Rattle.std.specs.Prelude.{string_bytes}
use Rattle.fish_report.proofs.WritingLemmas.{PassesPart_sent}
use Rattle.fish_report.proofs.writing.send_full.Goals as goal

pub returns-clause-part : goal.returns-clause-part
returns-clause-part g c =
    let written = g.W.Sink.written in
    on_err_weaker c.send.result
    (PassesPart_sent (written c.args.out.now) (written c.send.new.out) (string_bytes c.args.text.now))
    c.send.ensures.part
