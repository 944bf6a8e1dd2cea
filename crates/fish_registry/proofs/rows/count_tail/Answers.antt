-- A count has 28 bits, and a pass that is alone finds the tail that it knew.
use Rattle.std.proofs.Common.{ap, arith}
use Rattle.fish_registry.proofs.Changing.{at_tail}
use Rattle.fish_rule.proofs.laws.Steps.{count_law}
use Rattle.fish_rule.specs.Passes.{view}
use Rattle.fish_rule.specs.declared.view.View.{View}
use Rattle.fish_registry.proofs.rows.count_tail.Goals as goal

pub overflow_cast-result : goal.overflow_cast-result
overflow_cast-result c =
    let told = c.load_tail.ensures.view in
    let few = count_law (view c.load_tail.new.pass) c.load_tail.ensures.pass.stands in
    let count = ap (λ (v : View). v.learned.count) told.1 in
    let same = told.2 in
    omega arith

pub returns-clause-alone : goal.returns-clause-alone
returns-clause-alone c alone = at_tail (view c.args.pass.now) _ _ (c.load_tail.ensures.rests alone.control alone.all)
