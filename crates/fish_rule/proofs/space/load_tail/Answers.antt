-- The table allows a load of the tail.
use Rattle.std.proofs.Common.{sym, arith, subst, ℕ, ◌<◌, ◌≤◌}
use Rattle.fish_rule.proofs.steps.LoadTail.{load_tail_allowed}
use Rattle.fish_rule.specs.Parts.{RestsAt}
use Rattle.fish_rule.specs.Passes.{view}
use Rattle.fish_rule.specs.World.{high}
use Rattle.fish_rule.specs.declared.view.Key.{Key}
use Rattle.fish_rule.proofs.space.load_tail.Goals as goal

pub load-found-requires : goal.load-found-requires
load-found-requires c =
    let log = c.args.log.now in
    let seat = c.args.pass.now.seat in (
      c.requires.pass.table,
      subst (λ (z : ℕ). 0 < z) (sym log.wide) (omega arith),
      load_tail_allowed log.table.shared.key log.key log.keyed log.table.shared.table_id.slots seat.id seat.me
          c.requires.pass.about,
    )

pub returns-clause-view : goal.returns-clause-view
returns-clause-view c = (
  c.load-found.result,
  c.load-found.ensures.2.told.view,
  c.position_in.ensures.number,
  c.position_in.ensures.line,
)

pub returns-clause-rests : goal.returns-clause-rests
returns-clause-rests c control all =
    let at = c.position_in.ensures in
    subst (λ (z : ℕ × ℕ). RestsAt z.0 z.1 (view c.args.pass.now).tail) (λ i. (sym at.number i, sym at.line i))
    (c.load-found.ensures.2.rests control all)

pub returns-clause-from : goal.returns-clause-from
returns-clause-from c = subst (λ (z : ℕ). c.args.log.now.key.number ≤ z) (sym c.position_in.ensures.number)
    (subst (λ (z : Key). z.number ≤ high c.load-found.result) c.requires.pass.about c.load-found.ensures.2.from)

pub returns-clause-counted : goal.returns-clause-counted
returns-clause-counted c = subst (λ (z : ℕ). (view c.args.pass.now).learned.count ≤ z)
    (sym c.position_in.ensures.number) c.load-found.ensures.2.counted

pub returns-clause-settled : goal.returns-clause-settled
returns-clause-settled c = subst (λ (z : ℕ). (view c.args.pass.now).learned.settled ≤ z)
    (sym c.position_in.ensures.number) c.load-found.ensures.2.settled
