-- The registrar keeps what it keeps.
use Rattle.tests_log.proofs.Kept.{working_stored}
use Rattle.tests_log.proofs.registrations.store_kept.Goals as goal

pub returns : goal.returns
returns c =
    let e = c.store.ensures in
    working_stored c.args.log.now c.args.control.now _ c.args.registrar.now _ c.requires.kept e.ready e.lane e.rows e.control_words
    e.round e.learns
