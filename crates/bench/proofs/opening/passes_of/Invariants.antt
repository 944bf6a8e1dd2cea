-- The control pass has given out the lanes so far, and their passes are ready.
use Rattle.std.proofs.Common.{All}
use Rattle.bench.specs.Opening.{IsControl, IsReady}
use Rattle.fish_rule.specs.Passes.{IsPassOf, view}
use Rattle.bench.proofs.opening.passes_of.Given as goal

abbrev pub invariant-loop-number : goal.invariant-loop-number
invariant-loop-number l = record {
  of : IsPassOf l.log l.control;
  control : IsControl l.number (view l.control);
  ready : All (IsReady l.log) l.passes.items;
}
