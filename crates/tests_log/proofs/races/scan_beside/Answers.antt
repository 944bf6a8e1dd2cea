-- The lanes are out as before, and the pass may scan.
use Rattle.tests_log.proofs.Kept.{beside_scanned}
use Rattle.tests_log.proofs.races.scan_beside.Goals as goal

pub returns : goal.returns
returns c =
    beside_scanned c.args.log.now c.args.control.now _ c.args.registrar.now _ c.requires c.scan_between-answer.ensures.ready
    c.scan_between-answer.ensures.only
