-- The intervals are those of the rows so far.
use Rattle.fish_catalog.proofs.Intervals.{AreBelow}
use Rattle.fish_catalog.proofs.catalog.Catalog.intervals.Given as goal

abbrev pub invariant-loop-row : goal.invariant-loop-row
invariant-loop-row l = AreBelow l.rows l.def l.row-index l.intervals
