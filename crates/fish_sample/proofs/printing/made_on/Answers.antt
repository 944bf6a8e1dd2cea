-- The log that was closed is that of the store that was filled.
use Rattle.fish_sample.proofs.Filled.{made_of}
use Rattle.fish_sample.proofs.printing.made_on.Goals as goal

pub returns-in-Ok : goal.returns-in-Ok
returns-in-Ok g c =
    made_of g.D.Disk c.args.number c.make_store.new.disk c.fill.new.disk c.in_ok-store.store c.fill.new.store
    c.in-Ok.text c.in_ok-store.ensures c.in-Ok.ensures c.close.result c.close.ensures.text c.close.ensures.opened c.close.ensures.closed
