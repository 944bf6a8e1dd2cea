-- The last record may be stored, and those before it may be afterwards.
use Rattle.std.proofs.Common.{Some}
use Rattle.std.proofs.lemmas.List.Elements.{All-pop}
use Rattle.bench.specs.Stores.{IsStorable}
use Rattle.bench.proofs.Placing.{storable_on}
use Rattle.fish_rule.specs.Passes.{view}
use Rattle.bench.proofs.stores.store_each.Goals as goal

pub store_one-requires-clause-prepared : goal.store_one-requires-clause-prepared
store_one-requires-clause-prepared c =
    let lane = (view c.loop-prepared.pass).lane in
    (All-pop (IsStorable c.args.log.now lane) c.loop-prepared.records.items c.pop.new.self.items
    (Some c.in-Some.prepared) c.in-Some.ensures.items c.loop-prepared.invariant.left).1

pub loop-prepared-preserved-then-store_one : goal.loop-prepared-preserved-then-store_one
loop-prepared-preserved-then-store_one c =
    let lane = (view c.loop-prepared.pass).lane in
    record {
      of = c.store_one.ensures.pass;
      entered = c.store_one.ensures.entered;
      left = storable_on c.args.log.now lane (view c.store_one.new.pass).lane c.pop.new.self.items
          c.store_one.ensures.lane (All-pop (IsStorable c.args.log.now lane) c.loop-prepared.records.items
          c.pop.new.self.items (Some c.in-Some.prepared) c.in-Some.ensures.items c.loop-prepared.invariant.left).0;
    }

pub loop-prepared-preserved : goal.loop-prepared-preserved
loop-prepared-preserved c =
    let lane = (view c.loop-prepared.pass).lane in
    record {
      of = c.store_one.ensures.pass;
      entered = c.store_one.ensures.entered;
      left = storable_on c.args.log.now lane (view c.store_one.new.pass).lane c.pop.new.self.items
          c.store_one.ensures.lane (All-pop (IsStorable c.args.log.now lane) c.loop-prepared.records.items
          c.pop.new.self.items (Some c.in-Some.prepared) c.in-Some.ensures.items c.loop-prepared.invariant.left).0;
    }
