-- The three blocks, one after the other.
use Rattle.fish_sample.proofs.Filled.{filled_of}
use Rattle.fish_sample.proofs.filling.fill.Goals as goal

pub returns : goal.returns
returns g c =
    filled_of g.D.Disk c.args.number c.args.disk.now c.register.new.disk c.store_shares.new.disk
    c.count_values.new.disk c.args.store.now c.register.new.store c.store_shares.new.store c.count_values.new.store
    c.in_ok-defined.defined c.in_ok-stored.stored c.requires.new c.in_ok-defined.ensures c.in_ok-stored.ensures c.count_values.result
    c.count_values.ensures
