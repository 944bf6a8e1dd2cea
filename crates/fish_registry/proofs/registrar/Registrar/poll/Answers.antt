-- What waits waits on at the older lane, or its index begins.
use Rattle.std.proofs.Common.{None, refl, subst, sym, ap, ◌∙◌}
use Rattle.fish_registry.proofs.Changing.{changes_both, changes_looks, counted_within, same_tail}
use Rattle.fish_registry.proofs.Knowing.{knows_bound, knows_older}
use Rattle.fish_registry.specs.Knowing.{IsWaitingFor, KnowsRows}
use Rattle.fish_rule.proofs.laws.Clocks.{later_self}
use Rattle.fish_rule.specs.Passes.{view}
use Rattle.fish_rule.specs.declared.view.View.{View}
use Rattle.fish_registry.specs.declared.registrar.Waiting.{Waiting}
use Rattle.std.proofs.Common.{Option, List}
use Rattle.fish_catalog.specs.declared.row.CatRow.{CatRow}
use Rattle.fish_registry.proofs.registrar.Registrar.poll.Goals as goal

pub returns-in-Some-first_older-clause-knows : goal.returns-in-Some-first_older-clause-knows
returns-in-Some-first_older-clause-knows c =
    let v = view c.args.pass.now in
    let rows : List CatRow = c.args.self.now.catalog in
    knows_older v _ rows c.in-Some.waiting _
    (subst (KnowsRows v rows) c.in-Some.is c.requires.knows) c.in-Some-first_older.ensures.looks
    c.in-Some-first_older.ensures.older.awaited

pub returns-in-None-clause-knows : goal.returns-in-None-clause-knows
returns-in-None-clause-knows c =
    let v = view c.args.pass.now in
    let rows : List CatRow = c.args.self.now.catalog in
    subst (λ (z : List CatRow). KnowsRows (view c.bind-from.new.pass) z None) (sym c.set_from.ensures)
    (knows_bound v _ _ rows c.in-Some.waiting _ (subst (KnowsRows v rows) c.in-Some.is c.requires.knows)
    c.first_older.ensures.looks c.bind-from.ensures.bound)

pub returns-in-None-clause-changes : goal.returns-in-None-clause-changes
returns-in-None-clause-changes c =
    changes_both (view c.args.pass.now) _ _ (changes_looks _ _ c.first_older.ensures.looks) c.bind-from.ensures.bound.changes

pub returns-in-None-clause-tells : goal.returns-in-None-clause-tells
returns-in-None-clause-tells c = (
  subst (λ (o : Option Waiting). IsWaitingFor o c.in-Some.waiting.id) (sym c.in-Some.is) refl,
  refl,
  c.set_from.ensures,
  counted_within (view c.args.pass.now) _ _ (view c.bind-from.new.pass) _ c.first_older.ensures.looks.clock
      c.bind-from.ensures.bound.counted (later_self (view c.bind-from.new.pass).clock),
  c.bind-from.ensures.bound.count,
)

pub returns-in-None-clause-begins : goal.returns-in-None-clause-begins
returns-in-None-clause-begins c alone =
    let frame = c.first_older.ensures.looks.frame in
    same_tail (view c.args.pass.now) (view c.first_older.new.pass) _ (ap (λ (v : View). v.tail) frame) (c.bind-from.ensures.alone (record {
      control = ap (λ (v : View). v.lane) frame ∙ alone.control;
      all = ap (λ (v : View). v.out) frame ∙ alone.all;
      idle = ap (λ (v : View). v.flight) frame ∙ alone.idle;
    }))
