-- The active row of the name ends at the count that was loaded.
use Rattle.std.proofs.Common.{List, Option, None, subst, sym, ap, ◌∙◌, arith}
use Rattle.fish_catalog.specs.declared.row.CatRow.{CatRow}
use Rattle.fish_registry.proofs.Changing.{changes_both, changes_end, changes_stays, counted_end, counted_within, same_tail}
use Rattle.fish_registry.proofs.Knowing.{knows_ended, knows_stays, knows_tailed, may_close, may_end}
use Rattle.fish_registry.specs.Knowing.{KnowsRows}
use Rattle.fish_registry.specs.declared.registrar.Waiting.{Waiting}
use Rattle.fish_rule.proofs.laws.Versions.{control_law}
use Rattle.fish_rule.specs.Passes.{view}
use Rattle.fish_rule.specs.declared.view.View.{View}
use Rattle.fish_registry.proofs.registrar.Registrar.end.Goals as goal

pub returns-in_err-version-clause-knows : goal.returns-in_err-version-clause-knows
returns-in_err-version-clause-knows c =
    knows_stays (view c.args.pass.now) _ c.args.self.now.catalog c.args.self.now.waiting c.last_version.ensures.stays
    c.requires.knows

pub returns-in_default-clause-knows : goal.returns-in_default-clause-knows
returns-in_default-clause-knows c =
    knows_stays (view c.args.pass.now) _ c.args.self.now.catalog c.args.self.now.waiting c.last_version.ensures.stays
    c.requires.knows

pub end_row-requires-clause-row : goal.end_row-requires-clause-row
end_row-requires-clause-row c =
    let u = view c.last_version.new.pass in
    let z = view c.count_tail-to.new.pass in
    let rows : List CatRow = c.args.self.now.catalog in
    let row = c.in-Some.ensures.found in
    let tailed = c.count_tail-to.ensures.view in
    let known = knows_tailed u z rows None _ tailed (subst (KnowsRows u rows) c.in_ok-version.ensures.version.1.settled
    (knows_stays (view c.args.pass.now) u rows c.args.self.now.waiting c.last_version.ensures.stays c.requires.knows)) in
    let count = ap (λ (y : View). y.learned.count) tailed.view in
    let is = tailed.is in
    let from = tailed.from in
    let about = ap (λ (y : View). y.about.number) tailed.view in
    may_end z rows c.in-Some.id c.count_tail-to.result row.row
    (control_law z c.count_tail-to.ensures.pass.stands known.control) known row.there row.active (omega arith)
    (omega arith)

pub set_to-requires : goal.set_to-requires
set_to-requires c =
    let u = view c.last_version.new.pass in
    let rows : List CatRow = c.args.self.now.catalog in
    let row = c.in-Some.ensures.found in
    may_close u rows c.in-Some.id c.count_tail-to.result row.row
    (subst (KnowsRows u rows) c.in_ok-version.ensures.version.1.settled
    (knows_stays (view c.args.pass.now) u rows c.args.self.now.waiting c.last_version.ensures.stays c.requires.knows))
    row.there row.active c.count_tail-to.ensures.view.more

pub returns-clause-knows : goal.returns-clause-knows
returns-clause-knows c =
    let u = view c.last_version.new.pass in
    let z = view c.count_tail-to.new.pass in
    let rows : List CatRow = c.args.self.now.catalog in
    let row = c.in-Some.ensures.found in
    let settled = c.in_ok-version.ensures.version.1.settled in
    let known = knows_tailed u z rows None _ c.count_tail-to.ensures.view (subst (KnowsRows u rows) settled
    (knows_stays (view c.args.pass.now) u rows c.args.self.now.waiting c.last_version.ensures.stays c.requires.knows)) in
    subst (λ (x : List CatRow × Option Waiting). KnowsRows (view c.end_row.new.pass) x.0 x.1)
    (λ i. (sym c.set_to.ensures i, sym settled i))
    (knows_ended z (view c.end_row.new.pass) rows c.in-Some.id c.count_tail-to.result row.row
    (control_law z c.count_tail-to.ensures.pass.stands known.control) known row.there c.end_row.ensures.ended)

pub returns-clause-changes : goal.returns-clause-changes
returns-clause-changes c =
    let u = view c.last_version.new.pass in
    let z = view c.count_tail-to.new.pass in
    let tailed = c.count_tail-to.ensures.view in
    let is = tailed.is in
    let more = tailed.more in
    changes_both (view c.args.pass.now) u _ (changes_stays _ _ c.last_version.ensures.stays)
    (changes_both u z _ (changes_end u z tailed.tail tailed.view (omega arith)) c.end_row.ensures.ended.changes)

pub returns-clause-counted : goal.returns-clause-counted
returns-clause-counted c =
    let u = view c.last_version.new.pass in
    let z = view c.count_tail-to.new.pass in
    let tailed = c.count_tail-to.ensures.view in
    counted_within (view c.args.pass.now) u z _ _ c.last_version.ensures.stays.clock
    (counted_end u z tailed.tail c.count_tail-to.result tailed.view tailed.is) c.end_row.ensures.ended.changes.clock

pub returns-clause-reached : goal.returns-clause-reached
returns-clause-reached c =
    let tailed = c.count_tail-to.ensures.view in
    let is = tailed.is in
    let count = ap (λ (y : View). y.learned.count) tailed.view in
    let after = c.end_row.ensures.ended.count in
    let before = ap (λ (y : View). y.learned.count) c.last_version.ensures.stays.frame in
    let more = tailed.more in
    (omega arith, omega arith)

pub returns-clause-alone : goal.returns-clause-alone
returns-clause-alone c alone =
    let frame = c.last_version.ensures.stays.frame in
    same_tail (view c.args.pass.now) (view c.last_version.new.pass) _ (ap (λ (v : View). v.tail) frame)
    (c.count_tail-to.ensures.alone (record {
      control = ap (λ (v : View). v.lane) frame ∙ alone.control;
      all = ap (λ (v : View). v.out) frame ∙ alone.all;
      idle = ap (λ (v : View). v.flight) frame ∙ alone.idle;
    }))
