-- The table allows a load of a boundary.
use Rattle.std.proofs.Common.{◌∙◌, sym, arith, ap, subst, ℕ, ◌<◌, ◌≤◌, ◌+◌, ◌*◌}
use Rattle.fish_rule.proofs.steps.LoadBoundary.{load_boundary_allowed}
use Rattle.fish_rule.specs.Flying.{region_in}
use Rattle.fish_rule.specs.Table.{IsOfMoment}
use Rattle.fish_rule.specs.declared.view.View.{View}
use Rattle.fish_rule.proofs.boundaries.load_boundary.Goals as goal

pub load-requires : goal.load-requires
load-requires c =
    let log = c.args.log.now in
    let seat = c.args.pass.now.seat in
    let few = c.requires.boundary.few in
    let bound = c.requires.boundary.bound in (
      c.requires.pass.table,
      subst (λ (z : ℕ). 532 + c.args.id * 39 + c.args.place < z) (sym log.wide) (omega arith),
      load_boundary_allowed log.table.shared.key log.key log.keyed log.table.shared.table_id.slots seat.id seat.me
          c.args.id c.args.place _ c.requires.pass.about c.requires.boundary (omega arith),
    )

pub invariant_of-pass : goal.invariant_of-pass
invariant_of-pass c =
    let can = c.requires.boundary in
    let told = c.load.ensures.2.told c.args.id c.args.place can.few can.bound (omega arith) in
    record {
      bare = told.held ∙ c.args.pass.now.bare;
      lane_is = ap (λ (z : View). z.lane) told.view ∙ c.args.pass.now.lane_is;
      shut_is = ap (λ (z : View). z.shut) told.view ∙ c.args.pass.now.shut_is;
      flight_is = ap (λ (z : View). region_in z.flight) told.view ∙ c.args.pass.now.flight_is;
    }

pub returns-clause-pass : goal.returns-clause-pass
returns-clause-pass c =
    let can = c.requires.boundary in
    let told = c.load.ensures.2.told c.args.id c.args.place can.few can.bound (omega arith) in
    record {
      table = c.load.ensures.0 ∙ c.requires.pass.table;
      about = ap (λ (z : View). z.about) told.view ∙ c.requires.pass.about;
      live = subst (λ (z : ℕ). 1 ≤ z) (sym (ap (λ (z : View). z.lane) told.view)) c.requires.pass.live;
      stands = subst IsOfMoment (sym told.view) told.stands;
    }

pub returns-clause-view : goal.returns-clause-view
returns-clause-view c =
    let can = c.requires.boundary in
    (c.load.ensures.2.told c.args.id c.args.place can.few can.bound (omega arith)).view

pub returns-clause-known : goal.returns-clause-known
returns-clause-known c x among same = c.load.ensures.2.known x among (same ∙ (omega arith))
