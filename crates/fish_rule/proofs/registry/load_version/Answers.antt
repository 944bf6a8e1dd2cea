-- The table allows a load of the version.
use Rattle.std.proofs.Common.{sym, arith, subst, ℕ, ◌<◌}
use Rattle.fish_rule.proofs.steps.LoadVersion.{load_version_allowed}
use Rattle.fish_rule.proofs.registry.load_version.Goals as goal

pub load-requires : goal.load-requires
load-requires c =
    let log = c.args.log.now in
    let seat = c.args.pass.now.seat in (
      c.requires.pass.table,
      subst (λ (z : ℕ). 2 < z) (sym log.wide) (omega arith),
      load_version_allowed log.table.shared.key log.key log.keyed log.table.shared.table_id.slots seat.id seat.me
          c.requires.pass.about,
    )
