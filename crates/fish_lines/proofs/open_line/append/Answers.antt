-- The CR and the text go after the bytes; of the text no more than is kept was copied.
use Rattle.std.proofs.Common.{◌∙◌, ap, ◌++◌, ◌∷◌, []}
use Rattle.std.proofs.lemmas.Result.{on_ok_weaker}
use Rattle.fish_lines.specs.Open.{longest_kept}
use Rattle.fish_lines.proofs.KeptLemmas.{append_cr}
use Rattle.fish_lines.proofs.open_line.append.Goals as goal

pub returns-clause-ok : goal.returns-clause-ok
returns-clause-ok c =
    let more = c.as_bytes.ensures ∙ c.in_ok-append.ensures.ok
    ∙ ap (λ l. l ++ c.first.result.now) c.in_ok-more.ensures ∙ ap (λ l. (13 ∷ []) ++ l) c.first.ensures in
    on_ok_weaker c.append_kept-2.result
    (λ is within. is within ∙ append_cr longest_kept c.args.cr c.args.bytes.now c.args.text.now _ c.if-not-cr.false more)
    c.append_kept-2.ensures.ok
