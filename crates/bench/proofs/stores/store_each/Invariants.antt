-- The pass stays entered and keeps its lane, for which the records left were prepared.
use Rattle.std.proofs.Common.{All, length}
use Rattle.bench.specs.Stores.{IsEntered, IsStorable}
use Rattle.fish_rule.specs.Passes.{IsPassOf, view}
use Rattle.bench.proofs.stores.store_each.Given as goal

abbrev pub invariant-loop-prepared : goal.invariant-loop-prepared
invariant-loop-prepared l = record {
  of : IsPassOf l.log l.pass;
  entered : IsEntered (view l.pass);
  left : All (IsStorable l.log (view l.pass).lane) l.records.items;
}

abbrev pub decreases-loop-prepared : goal.decreases-loop-prepared
decreases-loop-prepared l = length l.records.items
