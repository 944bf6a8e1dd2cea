-- The record that a line was read as counts as the line does.
use Rattle.std.proofs.Common.{◌∙◌}
use Rattle.std.proofs.lemmas.Result.{on_ok_weaker}
use Rattle.fish_lang.specs.Definition.{definition_of}
use Rattle.fish_select.proofs.LineLemmas.{line_counts}
use Rattle.fish_select.proofs.lines.add_line.Goals as goal

pub returns-in_ok-kept-in-Ok-clause-counted : goal.returns-in_ok-kept-in-Ok-clause-counted
returns-in_ok-kept-in-Ok-clause-counted c =
    on_ok_weaker c.add.result
    (λ counted. counted ∙ line_counts (definition_of c.args.def.now) c.args.value.now c.args.found.now c.args.line.now _
    c.in_ok-kept-in-Ok.field-0 c.in-Ok.ensures.ok c.in_ok-kept-in-Ok.ensures)
    c.add.ensures.more
