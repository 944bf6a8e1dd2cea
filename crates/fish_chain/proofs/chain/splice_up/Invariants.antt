-- The first word above was last seen to be `previous`, and what is between it and the own place shrinks.
use Rattle.std.proofs.Common.{◌-◌}
use Rattle.fish_chain.proofs.Splicing.{IsSplicing}
use Rattle.fish_rule.specs.Passes.{IsPassOf, view}
use Rattle.fish_chain.proofs.chain.splice_up.Given as goal

abbrev pub invariant-loop-previous : goal.invariant-loop-previous
invariant-loop-previous l = record {
  of : IsPassOf l.log l.pass;
  splicing : IsSplicing (view l.fn.pass) l.above l.place l.previous (view l.pass);
}

abbrev pub decreases-loop-previous : goal.decreases-loop-previous
decreases-loop-previous l = l.place - l.previous
