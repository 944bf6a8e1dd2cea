-- The table allows a load of a lane's epoch word.
use Rattle.std.proofs.Common.{sym, arith, subst, ℕ, ◌<◌}
use Rattle.fish_rule.proofs.steps.CheckLane.{check_lane_allowed}
use Rattle.fish_rule.proofs.boundaries.check_lane.Goals as goal

pub load-requires : goal.load-requires
load-requires c =
    let log = c.args.log.now in
    let seat = c.args.pass.now.seat in
    let few = c.requires.lane.few in
    let at = c.epoch_index-index.ensures in (
      c.requires.pass.table,
      subst (λ (z : ℕ). c.epoch_index-index.result < z) (sym log.wide) (omega arith),
      check_lane_allowed log.table.shared.key log.key log.keyed log.table.shared.table_id.slots seat.id seat.me
          c.args.lane _ c.requires.pass.about c.requires.lane at,
    )
