-- What the parts ask for, the words do; and the sizes among them are within their bounds.
use Rattle.std.proofs.Common.{ap, refl, ◌∙◌, rules}
use Rattle.std.specs.Prelude.{Some, Ok}
use Rattle.std.proofs.lemmas.Result.{IfErr-weaker, IfOk-weaker}
use Rattle.fish_command.specs.Command.{asked_of}
use Rattle.fish_command.proofs.Outcomes.{IsCommand-none, IsCommand-read, IsCommandRefused-read, request_of-parts}
use Rattle.fish_command.proofs.parse.parse_command.Goals as goal

pub returns-in-Some-Select-clause-ok : goal.returns-in-Some-Select-clause-ok
returns-in-Some-Select-clause-ok c =
    let parts = request_of-parts c.args.words.now c.in_ok-def.field-0 _ c.in_ok-def.ensures.parts
    (c.in-Some-Select.is ∙ ap Some c.in-Some-Select.field-0-is) in
    IfOk-weaker c.read_select.result _ _ (λ command asks. IsCommand-read _ _ (Ok (asked_of command)) parts asks)
    c.read_select.ensures.ok

pub returns-in-Some-Select-clause-refused : goal.returns-in-Some-Select-clause-refused
returns-in-Some-Select-clause-refused c =
    let parts = request_of-parts c.args.words.now c.in_ok-def.field-0 _ c.in_ok-def.ensures.parts
    (c.in-Some-Select.is ∙ ap Some c.in-Some-Select.field-0-is) in
    IfErr-weaker c.read_select.result _ _ (λ refusal refused. IsCommandRefused-read _ _ refusal parts refused)
    c.read_select.ensures.refused

pub returns-in-Some-Run-clause-ok : goal.returns-in-Some-Run-clause-ok
returns-in-Some-Run-clause-ok c =
    let parts = request_of-parts c.args.words.now c.in_ok-def.field-0 _ c.in_ok-def.ensures.parts
    (c.in-Some-Run.is ∙ ap Some c.in-Some-Run.field-0-is) in
    IfOk-weaker c.read_run.result _ _
    (λ command asks. IsCommand-read _ _ (Ok (asked_of command)) parts (ap Ok asks)) c.read_run.ensures.ok

pub returns-in-None-clause-refused : goal.returns-in-None-clause-refused
returns-in-None-clause-refused c = IsCommand-none _ (search rules)

pub returns-in-Some-Sample-clause-ok : goal.returns-in-Some-Sample-clause-ok
returns-in-Some-Sample-clause-ok c =
    let parts = request_of-parts c.args.words.now c.in_ok-def.field-0 _ c.in_ok-def.ensures.parts
    (c.in-Some-Sample.is ∙ ap Some c.in-Some-Sample.field-0-is) in
    IsCommand-read _ _ _ parts refl
