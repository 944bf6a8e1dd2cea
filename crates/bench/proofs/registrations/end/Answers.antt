-- The registrar's call keeps what it keeps.
use Rattle.bench.proofs.Keeping.{kept_on}
use Rattle.bench.proofs.registrations.end.Goals as goal

pub returns : goal.returns
returns c =
    kept_on 16 c.args.log.now c.args.control.now _ c.args.registrar.now _ c.requires c.end.ensures.pass
    c.end.ensures.knows c.end.ensures.changes
