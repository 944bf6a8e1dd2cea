-- The table allows a load of the tail after the last lane.
use Rattle.std.proofs.Common.{◌∙◌, sym, arith, ap, subst, ℕ, ◌<◌, ◌≤◌}
use Rattle.fish_rule.proofs.steps.LoadBound.{load_bound_allowed}
use Rattle.fish_rule.specs.Flying.{region_in}
use Rattle.fish_rule.specs.Parts.{RestsAt}
use Rattle.fish_rule.proofs.basics.Context.{View, view}
use Rattle.fish_rule.specs.Table.{IsOfMoment}
use Rattle.fish_rule.proofs.boundaries.load_bound.Goals as goal

pub load-found-requires : goal.load-found-requires
load-found-requires c =
    let log = c.args.log.now in
    let seat = c.args.pass.now.seat in (
      c.requires.pass.table,
      subst (λ (z : ℕ). 0 < z) (sym log.wide) (omega arith),
      load_bound_allowed log.table.shared.key log.key log.keyed log.table.shared.table_id.slots seat.id seat.me
          c.requires.view.0 c.requires.pass.about c.requires.view.1,
    )

pub invariant_of-pass : goal.invariant_of-pass
invariant_of-pass c =
    let told = c.load-found.ensures.2.told c.requires.view.0 c.requires.view.1.waits in
    record {
      bare = told.held ∙ c.args.pass.now.bare;
      lane_is = ap (λ (z : View). z.lane) told.view ∙ c.args.pass.now.lane_is;
      shut_is = ap (λ (z : View). z.shut) told.view ∙ c.args.pass.now.shut_is;
      flight_is = ap (λ (z : View). region_in z.flight) told.view ∙ c.args.pass.now.flight_is;
    }

pub returns-clause-pass : goal.returns-clause-pass
returns-clause-pass c =
    let told = c.load-found.ensures.2.told c.requires.view.0 c.requires.view.1.waits in
    record {
      table = c.load-found.ensures.0 ∙ c.requires.pass.table;
      about = ap (λ (z : View). z.about) told.view ∙ c.requires.pass.about;
      live = subst (λ (z : ℕ). 1 ≤ z) (sym (ap (λ (z : View). z.lane) told.view)) c.requires.pass.live;
      stands = subst IsOfMoment (sym told.view) told.stands;
    }

pub returns-clause-view : goal.returns-clause-view
returns-clause-view c o waits = (
  c.load-found.result,
  (c.load-found.ensures.2.told o waits).view,
  c.position_in.ensures.number,
  c.position_in.ensures.line,
)

pub returns-clause-rests : goal.returns-clause-rests
returns-clause-rests c control all =
    let at = c.position_in.ensures in
    subst (λ (z : ℕ × ℕ). RestsAt z.0 z.1 (view c.args.pass.now).tail) (λ i. (sym at.number i, sym at.line i))
    (c.load-found.ensures.2.rests control all)

pub returns-clause-counted : goal.returns-clause-counted
returns-clause-counted c = subst (λ (z : ℕ). (view c.args.pass.now).learned.count ≤ z)
    (sym c.position_in.ensures.number) c.load-found.ensures.2.counted
