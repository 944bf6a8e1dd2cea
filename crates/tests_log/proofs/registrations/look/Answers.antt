-- The lanes are out as before.
use Rattle.tests_log.proofs.Kept.{beside_on}
use Rattle.tests_log.proofs.registrations.look.Goals as goal

pub returns : goal.returns
returns c =
    beside_on c.args.log.now c.args.control.now _ c.args.registrar.now _ c.requires c.poll.ensures.kept
    c.poll.ensures.changes
