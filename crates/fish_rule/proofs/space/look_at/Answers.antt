-- The number has a directory word, and the table allows its load.
use Rattle.std.proofs.Common.{sym, ap, arith, subst, ℕ, ◌<◌, ◌+◌, ◌-◌}
use Rattle.fish_rule.proofs.steps.LookAt.{look_at_allowed}
use Rattle.fish_rule.proofs.laws.Steps.{look_law}
use Rattle.fish_rule.specs.Passes.{view}
use Rattle.fish_rule.proofs.space.look_at.Goals as goal

pub overflow_add-index : goal.overflow_add-index
overflow_add-index c =
    let law = look_law c.args.log.now.key
    (view c.args.pass.now) c.args.number c.requires.pass.about c.requires.pass.stands c.requires.view in
    let fits = c.args.log.now.fits in
    let at = c.dir_at.ensures in
    omega arith

pub load-requires : goal.load-requires
load-requires c =
    let log = c.args.log.now in
    let seat = c.args.pass.now.seat in
    let law = look_law log.key
    (view c.args.pass.now) c.args.number c.requires.pass.about c.requires.pass.stands c.requires.view in
    let at = c.dir_at.ensures in (
      c.requires.pass.table,
      subst (λ (z : ℕ). c.dir_at.result + (c.args.number - log.key.number) < z) (sym log.wide) (omega arith),
      look_at_allowed log.table.shared.key log.key log.keyed log.table.shared.table_id.slots seat.id seat.me
          c.args.number _ c.requires.pass.about c.requires.view
          (ap (λ (z : ℕ). z + (c.args.number - log.key.number)) at),
    )
