-- A row that has no room is not sent.
use Rattle.std.specs.Prelude.{string_bytes}
use Rattle.fish_report.specs.Parts.{row_text}
use Rattle.fish_report.proofs.WritingLemmas.{PassesPart_none, on_err_any}
use Rattle.fish_report.proofs.writing.write_row.Goals as goal

pub returns-in_err-push_row-clause-part : goal.returns-in_err-push_row-clause-part
returns-in_err-push_row-clause-part g c =
    on_err_any c.from_residual.result
    (PassesPart_none (g.W.Sink.written c.args.out.now) (string_bytes c.args.text.now) (row_text c.args.row.now))
