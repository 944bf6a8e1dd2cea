-- The numbers before this one were looked at, and none of them was a mark; a pass that is alone found none open.
use Rattle.std.proofs.Common.{◌≡◌, ◌+◌, [], length}
use Rattle.fish_rule.specs.Passes.{IsPassOf, view}
use Rattle.fish_rule.specs.LoadSteps.{IsAlone}
use Rattle.fish_scan.specs.within.Reach.{AreLooks}
use Rattle.fish_walk.specs.within.Settling.{OnlyLooks}
use Rattle.fish_scan.proofs.reach.look_on.Given as goal

abbrev pub invariant-loop-number : goal.invariant-loop-number
invariant-loop-number l = record {
  of : IsPassOf l.log l.pass;
  only : OnlyLooks (view l.fn.pass) (view l.pass);
  looks : AreLooks (view l.fn.pass) (view l.pass) l.first l.number l.count l.looks.items l.opens;
  many : l.first + length l.looks.items ≡ l.number;
  closed : IsAlone (view l.fn.pass) → l.opens ≡ [];
}
