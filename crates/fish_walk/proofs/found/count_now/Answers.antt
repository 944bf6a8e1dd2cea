-- A count has 28 bits.
use Rattle.std.proofs.Common.{[], sym, ap, arith}
use Rattle.fish_rule.proofs.laws.Steps.{count_law}
use Rattle.fish_rule.specs.Passes.{view}
use Rattle.fish_rule.specs.World.{high}
use Rattle.fish_rule.specs.declared.view.View.{View}
use Rattle.fish_walk.proofs.found.count_now.Goals as goal

pub overflow_cast-result : goal.overflow_cast-result
overflow_cast-result c =
    let told = c.load_tail.ensures.view in
    let few = count_law (view c.load_tail.new.pass) c.load_tail.ensures.pass.stands in
    let count = ap (λ (v : View). v.learned.count) told.1 in
    let same = told.2 in
    omega arith

-- a list begins at the load
pub returns-clause-opens : goal.returns-clause-opens
returns-clause-opens c =
    let told = c.load_tail.ensures.view in
    record {
      last = record { count = high told.0; numbers = [] };
      before = (view c.args.pass.now).learned.opens;
      opens = ap (λ (v : View). v.learned.opens) told.1;
      count_is = sym told.2;
      listed = λ n among. elim among [ ];
    }
