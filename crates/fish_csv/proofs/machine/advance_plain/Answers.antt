-- A comma ends the field, a line end the row, and another byte joins the field.
use Rattle.std.proofs.Common.{sym, ◌∙◌}
use Rattle.fish_csv.proofs.Steps.{plain-comma, plain-end, plain-other}
use Rattle.fish_csv.proofs.machine.advance_plain.Goals as goal

pub returns-then-c-eq44-clause-goes : goal.returns-then-c-eq44-clause-goes
returns-then-c-eq44-clause-goes c = λ rest.
    rw (c.in_ok-end_field.ensures.fields, c.in_ok-end_field.ensures.field) (plain-comma c.args.c _ _ rest c.if-c-eq44.true)

pub returns-then-is_line_end-clause-goes : goal.returns-then-is_line_end-clause-goes
returns-then-is_line_end-clause-goes c = λ rest.
    rw c.in_ok-end_field-2.ensures.fields (plain-end c.args.c _ _ rest (sym c.is_line_end.ensures ∙ c.if-is_line_end.true))

pub returns-clause-goes : goal.returns-clause-goes
returns-clause-goes c = λ rest.
    rw c.in_ok-push.ensures.items (plain-other c.args.c _ _ rest c.if-c-eq44.false (sym c.is_line_end.ensures ∙ c.if-is_line_end.false))
