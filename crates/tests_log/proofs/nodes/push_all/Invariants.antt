-- The walk goes on over its numbers, and the pass is alone as long as it was.
use Rattle.std.specs.Prelude.{◌≡◌}
use Rattle.fish_chain.specs.Walks.{IsWalking}
use Rattle.fish_rule.specs.Passes.{IsPassOf, view, walk_of}
use Rattle.fish_rule.specs.LoadSteps.{IsAlone}
use Rattle.tests_log.proofs.nodes.push_all.Given as goal

abbrev pub invariant-loop-node : goal.invariant-loop-node
invariant-loop-node g l = record {
  of : IsPassOf l.log l.pass;
  walking : IsWalking (view l.pass) (walk_of l.pass);
  from_is : (walk_of l.pass).from ≡ (walk_of l.fn.pass).from;
  alone : IsAlone (view l.fn.pass) → IsAlone (view l.pass);
}

-- each node is below the one before
abbrev pub decreases-loop-node : goal.decreases-loop-node
decreases-loop-node g l = (walk_of l.pass).given
