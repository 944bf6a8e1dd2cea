-- Before a row no row ends; elsewhere the field at hand is the row's last.
use Rattle.fish_csv.proofs.Steps.{end-row, end-other}
use Rattle.fish_csv.proofs.machine.finish.Goals as goal

pub returns-in-Row : goal.returns-in-Row
returns-in-Row c = rw c.in-Row.is (end-row _ _)

pub returns-in_ok-end_field-in_default : goal.returns-in_ok-end_field-in_default
returns-in_ok-end_field-in_default c = rw c.in_ok-end_field-in_default.ensures.fields (end-other c.args.position _ _ c.in_default.not-Row)
