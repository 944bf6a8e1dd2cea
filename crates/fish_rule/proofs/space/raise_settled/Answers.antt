-- The table allows a raise by a pass that knows each number below.
use Rattle.std.proofs.Common.{sym, arith, subst, ℕ, ◌<◌}
use Rattle.fish_rule.proofs.steps.RaiseSettled.{raise_settled_allowed}
use Rattle.fish_rule.proofs.space.raise_settled.Goals as goal

pub fetch_max-requires : goal.fetch_max-requires
fetch_max-requires c =
    let log = c.args.log.now in
    let seat = c.args.pass.now.seat in (
      c.requires.pass.table,
      subst (λ (z : ℕ). 1 < z) (sym log.wide) (omega arith),
      raise_settled_allowed log.table.shared.key log.key log.keyed log.table.shared.table_id.slots seat.id seat.me
          c.args.number c.requires.pass.about c.requires.view,
    )
