-- The registrar keeps what it keeps.
use Rattle.tests_log.proofs.Kept.{working_scanned}
use Rattle.tests_log.proofs.statements.told_explained.Goals as goal

pub returns : goal.returns
returns c =
    working_scanned c.args.log.now c.args.control.now _ c.args.registrar.now _ c.requires.kept c.told_explain-text.ensures.ready
    c.told_explain-text.ensures.only
