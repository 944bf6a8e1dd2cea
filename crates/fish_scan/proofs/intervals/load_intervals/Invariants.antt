-- The intervals of the rows so far.
use Rattle.fish_rule.specs.Passes.{IsPassOf, view}
use Rattle.fish_scan.proofs.Beginnings.{AreSoFar}
use Rattle.fish_scan.specs.within.Intervals.{OnlyBoundaries}
use Rattle.fish_scan.proofs.intervals.load_intervals.Given as goal

abbrev pub invariant-loop-row : goal.invariant-loop-row
invariant-loop-row l = record {
  of : IsPassOf l.log l.pass;
  only : OnlyBoundaries (view l.fn.pass) (view l.pass);
  intervals : AreSoFar (view l.fn.pass) (view l.pass) l.rows l.text l.row-index l.intervals;
}
