-- A look at a settled number finds its region.
use Rattle.std.proofs.Common.{ap, arith}
use Rattle.fish_flush.proofs.RegionSteps.{looked_in}
use Rattle.fish_rule.specs.Passes.{view}
use Rattle.fish_rule.specs.declared.view.Key.{Key}
use Rattle.fish_walk.proofs.Records.{look_extends}
use Rattle.fish_flush.proofs.loading.find_region.Goals as goal

-- a settled number is one that was counted
pub look_at-requires-clause-view : goal.look_at-requires-clause-view
look_at-requires-clause-view c =
    let number = ap (λ (z : Key). z.number) c.requires.pass.about in
    let from = c.requires.from in
    let counted = c.requires.counted in
    let same = c.from.ensures in
    record { above = omega arith; below = omega arith }

pub returns-clause-extends : goal.returns-clause-extends
returns-clause-extends c =
    let told = c.look_at.ensures.view in
    look_extends (view c.args.pass.now) (view c.look_at.new.pass) _ told.0 _ told.1

pub returns-clause-looked : goal.returns-clause-looked
returns-clause-looked c =
    let told = c.look_at.ensures.view in
    looked_in c.args.log.now.key (view c.args.pass.now) (view c.look_at.new.pass) c.from.result c.args.number told.0
    c.look_at.result c.line_of_word.result c.requires.pass.about c.requires.from c.requires.settled c.from.ensures
    c.look_at.ensures.sees told.1 c.line_of_word.ensures
