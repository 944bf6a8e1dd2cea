-- The step's own moment says what stands at a settled number.
use Rattle.std.proofs.Common.{◌≡◌, sym, subst, ℕ}
use Rattle.fish_rule.specs.Passes.{view}
use Rattle.fish_rule.specs.LoadSteps.{after_look_at}
use Rattle.fish_rule.specs.Table.{Sees}
use Rattle.fish_walk.proofs.Looking.{look_found, opens_looked}
use Rattle.fish_walk.proofs.Records.{settled_seen}
use Rattle.fish_walk.specs.Looks.{IsEntryLook}
use Rattle.fish_walk.proofs.found.look.Goals as goal

pub returns-clause-settled : goal.returns-clause-settled
returns-clause-settled c below =
    let v = view c.args.pass.now in
    subst IsEntryLook (sym c.told_by.ensures) (settled_seen v c.args.number c.look_at.result c.requires.view.above below
    (subst (λ (z : ℕ). Sees v z c.look_at.result) c.from.ensures c.look_at.ensures.sees))

-- what the word told is found
pub returns-clause-found : goal.returns-clause-found
returns-clause-found c =
    let told = c.look_at.ensures.view in
    look_found (view c.args.pass.now) _ c.args.number told.0 c.look_at.result c.told_by.result
    (subst (λ (z : ℕ). view c.look_at.new.pass ≡ after_look_at (view c.args.pass.now) z told.0 c.look_at.result) c.from.ensures
    told.1) c.told_by.ensures

-- and a number that was found unpublished joins the others
pub returns-clause-opens : goal.returns-clause-opens
returns-clause-opens c =
    let told = c.look_at.ensures.view in
    opens_looked (view c.args.pass.now) _ c.args.number told.0 c.look_at.result c.told_by.result
    (subst (λ (z : ℕ). view c.look_at.new.pass ≡ after_look_at (view c.args.pass.now) z told.0 c.look_at.result) c.from.ensures
    told.1) c.told_by.ensures
