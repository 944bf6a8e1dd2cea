-- A quote begins a field in quotes, another byte one without.
use Rattle.fish_csv.specs.declared.machine.Position.TheVariants as position
use Rattle.fish_csv.proofs.Steps.{field-quote, field-other, IfOk-as}
use Rattle.fish_csv.proofs.machine.advance_field.Goals as goal

pub returns-then-c-eq34-clause-goes : goal.returns-then-c-eq34-clause-goes
returns-then-c-eq34-clause-goes c = λ rest. field-quote c.args.c _ _ rest c.if-c-eq34.true

pub returns-clause-goes : goal.returns-clause-goes
returns-clause-goes c =
    IfOk-as _ position.Field position.Plain c.args.c _ _ _ _
    (λ rest. field-other c.args.c _ _ rest c.if-c-eq34.false) c.advance_plain.ensures.goes
