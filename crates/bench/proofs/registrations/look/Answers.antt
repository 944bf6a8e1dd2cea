-- The registrar's call keeps what it keeps.
use Rattle.bench.proofs.Keeping.{kept_on}
use Rattle.bench.proofs.registrations.look.Goals as goal

pub returns-in-NotYet : goal.returns-in-NotYet
returns-in-NotYet c =
    kept_on 16 c.args.log.now c.args.control.now _ c.args.registrar.now _ c.requires c.poll.ensures.pass
    c.poll.ensures.knows c.poll.ensures.changes

pub returns-in_default : goal.returns-in_default
returns-in_default c =
    kept_on 16 c.args.log.now c.args.control.now _ c.args.registrar.now _ c.requires c.poll.ensures.pass
    c.poll.ensures.knows c.poll.ensures.changes
