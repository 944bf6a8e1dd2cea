-- The table allows a store of the next version.
use Rattle.std.proofs.Common.{sym, arith, subst, ℕ, ◌<◌}
use Rattle.fish_rule.proofs.steps.RaiseVersion.{raise_version_allowed}
use Rattle.fish_rule.proofs.registry.raise_version.Goals as goal

pub store-requires : goal.store-requires
store-requires c =
    let log = c.args.log.now in
    let seat = c.args.pass.now.seat in
    let version = c.requires.version in (
      c.requires.pass.table,
      subst (λ (z : ℕ). 2 < z) (sym log.wide) (omega arith),
      raise_version_allowed log.table.shared.key log.key log.keyed log.table.shared.table_id.slots seat.id seat.me
          _ c.requires.pass.about c.requires.view (omega arith),
    )
