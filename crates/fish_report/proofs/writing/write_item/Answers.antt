-- The head of an item, and then its rows.
use Rattle.std.proofs.lemmas.Result.{on_err_weaker, on_ok_weaker}
use Rattle.std.specs.Prelude.{string_bytes}
use Rattle.fish_report.specs.Parts.{rows_text}
use Rattle.fish_report.specs.ReportText.{head_text, item_text, rows_of_item}
use Rattle.fish_report.proofs.WritingLemmas.{PassesPart_front, PassesPart_none, PassesPart_on, PassesPart_trans}
use Rattle.fish_report.proofs.WritingLemmas.{Passes_on, Passes_trans, Passes_wait, on_err_any}
use Rattle.fish_report.proofs.writing.write_item.Goals as goal

pub returns-in_err-push_head-clause-part : goal.returns-in_err-push_head-clause-part
returns-in_err-push_head-clause-part g c =
    on_err_any c.from_residual.result
    (PassesPart_none (g.W.Sink.written c.args.out.now) (string_bytes c.args.text.now) (item_text c.args.item.now))

pub returns-in_err-send_full-clause-part : goal.returns-in_err-send_full-clause-part
returns-in_err-send_full-clause-part g c =
    let old = g.W.Sink.written c.args.out.now in
    let new = g.W.Sink.written c.send_full.new.out in
    let waiting = string_bytes c.args.text.now in
    let between = string_bytes c.push_head.new.text in
    let head = head_text c.args.item.now in
    on_err_any c.from_residual-in_err-send_full.result
    (PassesPart_front old new waiting head (rows_text (rows_of_item c.args.item.now))
    (PassesPart_on old old new waiting between head (Passes_wait old waiting between head c.in_ok-push_head.ensures)
    c.in_err-send_full.ensures.part))

pub returns-clause-passed : goal.returns-clause-passed
returns-clause-passed g c =
    let old = g.W.Sink.written c.args.out.now in
    let mid = g.W.Sink.written c.send_full.new.out in
    let new = g.W.Sink.written c.write_rows.new.out in
    let waiting = string_bytes c.args.text.now in
    let put = string_bytes c.push_head.new.text in
    let between = string_bytes c.send_full.new.text in
    let left = string_bytes c.write_rows.new.text in
    let head = head_text c.args.item.now in
    let first = Passes_on old old mid waiting put between head
    (Passes_wait old waiting put head c.in_ok-push_head.ensures) c.in_ok-send_full.ensures.passed in
    on_ok_weaker c.write_rows.result
    (λ passed. Passes_trans old mid new waiting between left head (rows_text (rows_of_item c.args.item.now)) first
    (rw (← c.rows_of.ensures) passed)) c.write_rows.ensures.passed

pub returns-clause-part : goal.returns-clause-part
returns-clause-part g c =
    let old = g.W.Sink.written c.args.out.now in
    let mid = g.W.Sink.written c.send_full.new.out in
    let new = g.W.Sink.written c.write_rows.new.out in
    let waiting = string_bytes c.args.text.now in
    let put = string_bytes c.push_head.new.text in
    let between = string_bytes c.send_full.new.text in
    let head = head_text c.args.item.now in
    let first = Passes_on old old mid waiting put between head
    (Passes_wait old waiting put head c.in_ok-push_head.ensures) c.in_ok-send_full.ensures.passed in
    on_err_weaker c.write_rows.result
    (λ part. PassesPart_trans old mid new waiting between head (rows_text (rows_of_item c.args.item.now)) first
    (rw (← c.rows_of.ensures) part)) c.write_rows.ensures.part
