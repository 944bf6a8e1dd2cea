-- The lanes are out as before.
use Rattle.tests_log.proofs.Kept.{beside_on}
use Rattle.tests_log.proofs.registrations.end_beside.Goals as goal

pub returns : goal.returns
returns c =
    beside_on c.args.log.now c.args.control.now _ c.args.registrar.now _ c.requires c.end.ensures.kept
    c.end.ensures.changes

pub returns-in_err-end : goal.returns-in_err-end
returns-in_err-end c =
    beside_on c.args.log.now c.args.control.now _ c.args.registrar.now _ c.requires c.end.ensures.kept
    c.end.ensures.changes
