-- The table allows a store of where the index of the registration that waits begins.
use Rattle.std.proofs.Common.{sym, arith, subst, ℕ, ◌<◌, ◌+◌, ◌*◌}
use Rattle.fish_rule.proofs.laws.Versions.{bound_law, round_law}
use Rattle.fish_rule.proofs.steps.StoreFrom.{store_from_allowed}
use Rattle.fish_rule.specs.Passes.{view}
use Rattle.fish_rule.proofs.boundaries.store_from.Goals as goal

pub overflow_add-from : goal.overflow_add-from
overflow_add-from c =
    let can = c.requires.view.1 in
    let few = bound_law (view c.args.pass.now) c.requires.view.0 c.args.from c.requires.pass.stands can.waits can.bound in
    omega arith

pub store-requires : goal.store-requires
store-requires c =
    let log = c.args.log.now in
    let seat = c.args.pass.now.seat in
    let can = c.requires.view.1 in
    let same = c.requires.view.2 in
    let few = round_law (view c.args.pass.now) c.requires.view.0 c.requires.pass.stands can.waits in (
      c.requires.pass.table,
      subst (λ (z : ℕ). 532 + c.args.id * 39 < z) (sym log.wide) (omega arith),
      store_from_allowed log.table.shared.key log.key log.keyed log.table.shared.table_id.slots seat.id seat.me
          c.requires.view.0 c.args.from _ _ c.requires.pass.about can few (omega arith) (omega arith),
    )
