-- The table allows a store of where the index of an active row ends.
use Rattle.std.proofs.Common.{sym, arith, subst, ℕ, ◌<◌, ◌+◌, ◌*◌}
use Rattle.fish_rule.proofs.laws.Steps.{counted_law}
use Rattle.fish_rule.proofs.steps.StoreTo.{store_to_allowed}
use Rattle.fish_rule.specs.Passes.{view}
use Rattle.fish_rule.proofs.boundaries.store_to.Goals as goal

pub overflow_add-to : goal.overflow_add-to
overflow_add-to c =
    let few = counted_law (view c.args.pass.now) c.requires.pass.stands in
    let within = c.requires.view.within in
    omega arith

pub store-requires : goal.store-requires
store-requires c =
    let log = c.args.log.now in
    let seat = c.args.pass.now.seat in
    let few = c.requires.view.few in (
      c.requires.pass.table,
      subst (λ (z : ℕ). 532 + c.args.id * 39 + 1 < z) (sym log.wide) (omega arith),
      store_to_allowed log.table.shared.key log.key log.keyed log.table.shared.table_id.slots seat.id seat.me
          c.args.id c.args.to _ _ c.requires.pass.about c.requires.view (omega arith) (omega arith),
    )
