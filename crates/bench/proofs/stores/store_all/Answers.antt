-- The pass keeps its lane as it enters.
use Rattle.std.proofs.Common.{ap}
use Rattle.bench.proofs.Placing.{storable_on}
use Rattle.fish_rule.specs.Passes.{view}
use Rattle.fish_rule.specs.declared.view.View.{View}
use Rattle.bench.proofs.stores.store_all.Goals as goal

pub store_each-stored-requires-clause-records : goal.store_each-stored-requires-clause-records
store_each-stored-requires-clause-records c =
    storable_on c.args.log.now (view c.args.pass.now).lane (view c.enter-version.new.pass).lane
    c.args.records.now.items (ap (λ (z : View). z.lane) c.enter-version.ensures.entered.keeps.frame) c.requires.records
