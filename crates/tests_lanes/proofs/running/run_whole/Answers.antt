-- The next block may follow.
use Rattle.fish_lanes.proofs.Between.{between_after}
use Rattle.tests_lanes.proofs.running.run_whole.Goals as goal

pub returns : goal.returns
returns g c =
    let end = c.run_block-end in
    let b = end.ensures in
    let first = c.is_whole.ensures (c.if-not-is_whole.false) in (
      end.result.to,
      between_after g.D.Disk c.args.disk.now c.args.store.now end.new.disk end.new.store end.new.lanes end.result b.store
          b.items.registered first.0 first.1 first.2,
    )
