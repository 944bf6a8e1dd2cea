-- The entries below the number were read; the pass is alone.
use Rattle.std.proofs.Common.{◌≡◌, ◌≤◌}
use Rattle.fish_rule.specs.within.ClosedLog.{IsReadUpTo}
use Rattle.fish_rule.specs.Logs.{Extends}
use Rattle.fish_rule.specs.Passes.{IsPassOf, view}
use Rattle.fish_rule.specs.LoadSteps.{IsAlone}
use Rattle.fish_rule.proofs.close.all_numbers.Given as goal

abbrev pub invariant-loop-number : goal.invariant-loop-number
invariant-loop-number l = record {
  of : IsPassOf l.log l.control;
  alone : IsAlone (view l.control);
  extends : Extends (view l.fn.control) (view l.control);
  counted : l.end ≤ (view l.control).learned.count;
  read : IsReadUpTo (view l.control) l.number l.read;
  lines : l.read.lines ≡ l.fn.read.lines;
}
