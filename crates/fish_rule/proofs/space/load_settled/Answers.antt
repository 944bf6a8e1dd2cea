-- The table allows a load of the settled number.
use Rattle.std.proofs.Common.{sym, arith, subst, ℕ, ◌<◌}
use Rattle.fish_rule.proofs.steps.LoadSettled.{load_settled_allowed}
use Rattle.fish_rule.proofs.space.load_settled.Goals as goal

pub load-requires : goal.load-requires
load-requires c =
    let log = c.args.log.now in
    let seat = c.args.pass.now.seat in (
      c.requires.pass.table,
      subst (λ (z : ℕ). 1 < z) (sym log.wide) (omega arith),
      load_settled_allowed log.table.shared.key log.key log.keyed log.table.shared.table_id.slots seat.id seat.me
          c.requires.pass.about,
    )
