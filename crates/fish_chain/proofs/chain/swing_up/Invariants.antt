-- The head was last seen at `head`, and what is between it and the own place shrinks.
use Rattle.std.proofs.Common.{◌-◌}
use Rattle.fish_chain.proofs.Swinging.{IsSwinging}
use Rattle.fish_rule.specs.Passes.{IsPassOf, view}
use Rattle.fish_chain.proofs.chain.swing_up.Given as goal

abbrev pub invariant-loop-head : goal.invariant-loop-head
invariant-loop-head l = record {
  of : IsPassOf l.log l.pass;
  swinging : IsSwinging (view l.fn.pass) l.bucket l.place l.head (view l.pass);
}

abbrev pub decreases-loop-head : goal.decreases-loop-head
decreases-loop-head l = l.place - l.head
