-- Each position takes the byte by a function of its own, and some take it alike.
use Rattle.std.proofs.Common.{sym, ◌∙◌}
use Rattle.fish_csv.specs.declared.machine.Position.TheVariants as position
use Rattle.fish_csv.proofs.Steps.{closed-other, row-end, row-other, IfOk-as}
use Rattle.fish_csv.proofs.machine.advance.Goals as goal

pub returns-then-is_line_end-clause-goes : goal.returns-then-is_line_end-clause-goes
returns-then-is_line_end-clause-goes c = λ rest.
    rw c.in-Row.is (row-end c.args.c _ _ rest (sym c.is_line_end.ensures ∙ c.if-is_line_end.true))

pub returns-else-is_line_end-clause-goes : goal.returns-else-is_line_end-clause-goes
returns-else-is_line_end-clause-goes c =
    rw c.in-Row.is (IfOk-as _ position.Row position.Field c.args.c _ _ _ _
    (λ rest. row-other c.args.c _ _ rest
    (sym c.is_line_end.ensures ∙ c.if-is_line_end.false)) c.advance_field.ensures.goes)

pub returns-else-c-eq34-clause-goes : goal.returns-else-c-eq34-clause-goes
returns-else-c-eq34-clause-goes c =
    rw c.in-Closed.is (IfOk-as _ position.Closed position.Plain c.args.c _ _ _ _
    (λ rest. closed-other c.args.c _ _ rest c.if-c-eq34.false) c.advance_plain-in-Closed.ensures.goes)
