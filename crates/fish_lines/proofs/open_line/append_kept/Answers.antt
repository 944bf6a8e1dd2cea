-- What there is room for goes after the bytes.
use Rattle.std.proofs.Common.{◌∙◌, ◌-◌, ap, ◌++◌, take}
use Rattle.std.proofs.lemmas.Result.{on_ok_weaker}
use Rattle.fish_lines.specs.Open.{longest_kept}
use Rattle.fish_lines.proofs.KeptLemmas.{take_room}
use Rattle.fish_lines.proofs.open_line.append_kept.Goals as goal

pub returns-clause-ok : goal.returns-clause-ok
returns-clause-ok c =
    let bytes = c.args.bytes.now in
    let text = c.args.text.now in
    let room = c.saturating_sub.ensures ∙ ap (λ n. longest_kept - n) c.len.ensures in
    on_ok_weaker c.append.result
    (λ is within. is ∙ ap (λ l. bytes ++ l) (c.first.ensures ∙ ap (λ n. take n text) room)
    ∙ take_room longest_kept bytes text within)
    c.append.ensures.ok
