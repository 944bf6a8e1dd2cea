-- The words that were loaded make the interval.
use Rattle.std.proofs.Common.{ℕ, ◌-◌, ap, sym, ◌∙◌, arith, None, Some}
use Rattle.fish_rule.specs.BoundarySteps.{after_load_boundary}
use Rattle.fish_rule.specs.Passes.{view}
use Rattle.fish_rule.specs.Registry.{row_at}
use Rattle.fish_scan.proofs.Beginnings.{taken_found, unbegun_found}
use Rattle.fish_scan.proofs.intervals.load_interval.Goals as goal

pub returns-then-from-eq0-clause-taken : goal.returns-then-from-eq0-clause-taken
returns-then-from-eq0-clause-taken c = unbegun_found (view c.args.pass.now) c.args.id c.load_boundary-from.result
    (λ y among is. c.load_boundary-from.ensures.known y among
    (is ∙ ap (λ (z : ℕ). row_at z 0) (sym c.from.ensures))) c.if-from-eq0.true

pub returns-then-to-eq0-clause-taken : goal.returns-then-to-eq0-clause-taken
returns-then-to-eq0-clause-taken c =
    let v = view c.args.pass.now in
    let m = view c.load_boundary-from.new.pass in
    let u = view c.load_boundary-to.new.pass in
    taken_found v m u c.args.id c.load_boundary-from.result c.load_boundary-to.result
    (c.load_boundary-from.result - 1) None c.requires.few
    (c.load_boundary-from.ensures.view ∙ ap (λ (z : ℕ). after_load_boundary v z 0 c.load_boundary-from.result) c.from.ensures)
    (c.load_boundary-to.ensures.view ∙ ap (λ (z : ℕ). after_load_boundary m z 1 c.load_boundary-to.result) c.from-2.ensures)
    (let some = c.if-from-eq0.false in omega arith) c.if-to-eq0.true
    (λ y among is. c.load_boundary-to.ensures.known y among (is ∙ ap (λ (z : ℕ). row_at z 1) (sym c.from-2.ensures)))

pub returns-else-to-eq0-clause-taken : goal.returns-else-to-eq0-clause-taken
returns-else-to-eq0-clause-taken c =
    let v = view c.args.pass.now in
    let m = view c.load_boundary-from.new.pass in
    let u = view c.load_boundary-to.new.pass in
    taken_found v m u c.args.id c.load_boundary-from.result c.load_boundary-to.result
    (c.load_boundary-from.result - 1) (Some (c.load_boundary-to.result - 1)) c.requires.few
    (c.load_boundary-from.ensures.view ∙ ap (λ (z : ℕ). after_load_boundary v z 0 c.load_boundary-from.result) c.from.ensures)
    (c.load_boundary-to.ensures.view ∙ ap (λ (z : ℕ). after_load_boundary m z 1 c.load_boundary-to.result) c.from-2.ensures)
    (let some = c.if-from-eq0.false in omega arith) (let some = c.if-to-eq0.false in omega arith)
    (λ y among is. c.load_boundary-to.ensures.known y among (is ∙ ap (λ (z : ℕ). row_at z 1) (sym c.from-2.ensures)))
