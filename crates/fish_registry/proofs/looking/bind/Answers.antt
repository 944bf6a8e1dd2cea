-- All lanes were looked at, so the tail may be loaded as where the index begins, and stored.
use Rattle.std.proofs.Common.{ap, arith}
use Rattle.fish_registry.proofs.Binding.{bound_at, can_bound, can_from}
use Rattle.fish_registry.proofs.Changing.{at_tail}
use Rattle.fish_rule.proofs.laws.Steps.{count_law}
use Rattle.fish_rule.specs.Passes.{view}
use Rattle.fish_rule.specs.declared.view.View.{View}
use Rattle.fish_registry.proofs.looking.bind.Goals as goal

pub load_bound-from-requires-clause-view : goal.load_bound-from-requires-clause-view
load_bound-from-requires-clause-view c = (c.requires.clear.round, can_bound (view c.args.pass.now) c.args.waiting c.requires.clear)

pub store_from-requires-clause-view : goal.store_from-requires-clause-view
store_from-requires-clause-view c =
    let told = c.load_bound-from.ensures.view c.requires.clear.round c.requires.clear.waits in
    can_from (view c.args.pass.now) _ c.args.waiting told.0 _ _ c.requires.control c.requires.clear told.1 told.2
    c.from.ensures

pub overflow_cast-result : goal.overflow_cast-result
overflow_cast-result c =
    let told = c.load_bound-from.ensures.view c.requires.clear.round c.requires.clear.waits in
    let few = count_law (view c.load_bound-from.new.pass) c.load_bound-from.ensures.pass.stands in
    let count = ap (λ (v : View). v.learned.count) told.1 in
    let same = told.2 in
    omega arith

pub returns-clause-bound : goal.returns-clause-bound
returns-clause-bound c =
    let told = c.load_bound-from.ensures.view c.requires.clear.round c.requires.clear.waits in
    bound_at (view c.args.pass.now) _ _ c.args.waiting told.0 _ c.requires.clear told.1 told.2
    c.load_bound-from.ensures.counted c.store_from.ensures.view

pub returns-clause-alone : goal.returns-clause-alone
returns-clause-alone c alone = at_tail (view c.args.pass.now) _ _ (c.load_bound-from.ensures.rests alone.control alone.all)
