-- The pass stays one of the log, and its walk goes on.
use Rattle.fish_chain.specs.Walks.{IsWalking}
use Rattle.fish_rule.specs.Passes.{IsPassOf, view, walk_of}
use Rattle.bench.proofs.walks.count_nodes.Given as goal

abbrev pub invariant-loop-nodes : goal.invariant-loop-nodes
invariant-loop-nodes g l = record {
  of : IsPassOf l.log l.pass;
  walking : IsWalking (view l.pass) (walk_of l.pass);
}
