-- The registrar keeps what it keeps.
use Rattle.tests_log.proofs.Kept.{working_scanned}
use Rattle.tests_log.proofs.statements.told_scanned.Goals as goal

pub returns : goal.returns
returns c =
    working_scanned c.args.log.now c.args.control.now _ c.args.registrar.now _ c.requires.kept c.told_scan-text.ensures.ready
    c.told_scan-text.ensures.only
