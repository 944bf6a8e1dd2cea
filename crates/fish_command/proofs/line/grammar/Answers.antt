-- The command that is built is a line's.
use Rattle.std.proofs.Common.{rules, ap₂, ◌≡◌, ◌∙◌}
use Rattle.std.proofs.lemmas.Result.{IfOk-weaker}
use Rattle.clap.specs.Words.{app_of, rule_of, with_rule}
use Rattle.fish_command.specs.within.Matched.{bare_app, plain_rule}
use Rattle.fish_command.proofs.line.grammar.Goals as goal

pub returns : goal.returns
returns c =
    let plain : rule_of c.action-words.result ≡ plain_rule = search rules in
    let bare : app_of c.disable_help_flag.result ≡ bare_app = search rules in
    IfOk-weaker c.arg-4.result _ _ (λ command adds. adds.shape (search rules)
    ∙ ap₂ with_rule (c.in_ok-arg-3.ensures.shape (search rules)
    ∙ ap₂ with_rule (c.in_ok-arg-2.ensures.shape (search rules)
    ∙ ap₂ with_rule (c.in_ok-arg.ensures.shape (search rules) ∙ ap₂ with_rule bare plain) c.option.ensures.rule)
    c.option-2.ensures.rule) c.option-3.ensures.rule) c.arg-4.ensures
