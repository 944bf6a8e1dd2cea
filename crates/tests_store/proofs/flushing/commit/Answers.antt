-- The store carries what was committed.
use Rattle.fish_flush.specs.Carrying.{HasCommitted}
use Rattle.fish_rule.specs.Passes.{view}
use Rattle.tests_store.proofs.Flushed.{committed_on, on_all}
use Rattle.tests_store.proofs.flushing.commit.Goals as goal

pub returns : goal.returns
returns g c =
    let disk = g.D.Disk in
    let control = c.args.control.now in
    let pass = c.checkpoint.new.pass in
    let flusher = c.checkpoint.new.flusher in
    let images = disk.images c.args.disk.now in
    let images' = disk.images c.checkpoint.new.disk in
    on_all c.checkpoint.result
    (HasCommitted images images' control.flusher flusher (view control.pass) (view pass) c.args.log.now.shape control.start.catalog) _
    c.checkpoint.ensures.committed
    (λ n committed. committed_on images c.args.log.now control c.requires pass images' flusher n c.checkpoint.ensures.pass
    c.checkpoint.ensures.reads committed)
