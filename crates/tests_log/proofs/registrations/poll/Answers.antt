-- The registrar's call keeps what it keeps.
use Rattle.tests_log.proofs.Kept.{kept_on}
use Rattle.tests_log.proofs.registrations.poll.Goals as goal

pub returns-clause-kept : goal.returns-clause-kept
returns-clause-kept c =
    kept_on c.args.log.now c.args.control.now _ c.args.registrar.now _ c.requires c.poll.ensures.pass c.poll.ensures.knows
    c.poll.ensures.changes
