-- The lanes store their shares.
use Rattle.std.proofs.Common.{◌∙◌, sym, arith}
use Rattle.fish_sample.proofs.Filled.{has_stored}
use Rattle.fish_sample.proofs.Naming.{share_lanes}
use Rattle.fish_sample.proofs.filling.run_shares.Goals as goal

pub run_lanes-requires-clause-lanes : goal.run_lanes-requires-clause-lanes
run_lanes-requires-clause-lanes g c κs within = share_lanes c.args.number c.args.lanes.now c.requires.lanes

pub returns : goal.returns
returns g c =
    has_stored g.D.Disk c.args.disk.now c.run_lanes.new.disk c.args.store.now c.run_lanes.new.store c.args.from
    c.in_ok-to.to c.args.lanes.now c.run_lanes.new.lanes c.in_ok-to.ensures c.args.number (omega (c.ranges.number.fits, arith))
    c.requires.lanes (sym c.are_stored.ensures ∙ c.if-not-are_stored.false)
