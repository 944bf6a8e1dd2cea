-- The walk is where it was, or further down with nothing of its range passed.
use Rattle.std.proofs.Common.{◌≡◌, ◌+◌}
use Rattle.fish_chain.proofs.Passing.{HasPassed}
use Rattle.fish_chain.specs.Walks.{HasRange, IsWalking}
use Rattle.fish_rule.specs.Logs.{Extends}
use Rattle.fish_rule.specs.Passes.{IsPassOf, view, walk_of}
use Rattle.fish_chain.proofs.walk.walk_next.Given as goal

abbrev pub invariant-loop-walk : goal.invariant-loop-walk
invariant-loop-walk g l = record {
  of : IsPassOf l.log l.pass;
  extends : Extends (view l.fn.pass) (view l.pass);
  walking : IsWalking (view l.pass) l.walk;
  range : HasRange l.walk (walk_of l.fn.pass).bucket (walk_of l.fn.pass).from (walk_of l.fn.pass).to;
  given : l.walk.given ≡ (walk_of l.fn.pass).given;
  few : HasPassed (view l.fn.pass) (view l.pass) (walk_of l.fn.pass).bucket (walk_of l.fn.pass).from (walk_of l.fn.pass).place
      l.walk.place;
  counted : l.loads + (view l.fn.pass).clock.loads ≡ l.fn.loads + (view l.pass).clock.loads;
}

abbrev pub decreases-loop-walk : goal.decreases-loop-walk
decreases-loop-walk g l = l.walk.place
