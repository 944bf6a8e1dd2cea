-- A store that was opened may be gone on with.
use Rattle.tests_store.proofs.Flushed.{flushing_open}
use Rattle.tests_store.proofs.going_on.gone_on.Goals as goal

pub step_told-told-requires : goal.step_told-told-requires
step_told-told-requires g c =
    flushing_open (g.D.Disk.images c.args.disk.now) c.args.opened c.control_of-control.result c.requires c.control_of-control.ensures.pass
    c.control_of-control.ensures.catalog c.control_of-control.ensures.flusher c.control_of-control.ensures.read
