-- The numbers so far are settled, and only looks were made.
use Rattle.fish_rule.specs.Passes.{IsPassOf, view}
use Rattle.fish_walk.specs.within.Settling.{AreSettled, OnlyLooks}
use Rattle.fish_walk.proofs.prefix.settled_up_to.Given as goal

abbrev pub invariant-loop-number : goal.invariant-loop-number
invariant-loop-number l = record {
  of : IsPassOf l.log l.pass;
  looked : OnlyLooks (view l.fn.pass) (view l.pass);
  settled : AreSettled (view l.pass) l.first l.number;
}
