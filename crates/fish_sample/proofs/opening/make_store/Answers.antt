-- A store that was made of an empty disk is new.
use Rattle.fish_sample.proofs.Making.{new_opened}
use Rattle.fish_sample.proofs.opening.make_store.Goals as goal

pub returns-in-Ok : goal.returns-in-Ok
returns-in-Ok g c =
    let disk = g.D.Disk in
    new_opened disk c.args.disk.now c.open_store.new.disk (g.met.D.Disk.as_read c.open_store.new.disk)
    c.requires.content c.requires.empty _ c.in-Ok.opened c.in-Ok.ensures.opened c.of_made.result c.of_made.ensures
