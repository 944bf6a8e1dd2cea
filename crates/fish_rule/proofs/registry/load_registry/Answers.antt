-- The table allows a load of a word that lasts.
use Rattle.std.proofs.Common.{sym, arith, subst, ℕ, ◌<◌}
use Rattle.fish_rule.proofs.steps.LoadRegistry.{load_registry_allowed}
use Rattle.fish_rule.proofs.laws.Versions.{registry_law}
use Rattle.fish_rule.specs.Passes.{view}
use Rattle.fish_rule.proofs.registry.load_registry.Goals as goal

pub load-requires : goal.load-requires
load-requires c =
    let log = c.args.log.now in
    let seat = c.args.pass.now.seat in
    let within = registry_law log.key (view c.args.pass.now) c.args.index c.requires.pass.about c.requires.pass.stands
    c.requires.view in (
      c.requires.pass.table,
      subst (λ (z : ℕ). c.args.index < z) (sym log.wide) (omega arith),
      load_registry_allowed log.table.shared.key log.key log.keyed log.table.shared.table_id.slots seat.id seat.me
          c.args.index c.requires.pass.about c.requires.view,
    )
