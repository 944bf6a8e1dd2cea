-- The pass may ingest as before.
use Rattle.tests_log.proofs.Kept.{working_on}
use Rattle.tests_log.proofs.registrations.begin_between.Goals as goal

pub returns : goal.returns
returns c =
    working_on c.args.log.now c.args.control.now _ c.args.registrar.now _ c.args.defs.now c.requires c.begin.ensures.kept
    c.begin.ensures.changes
