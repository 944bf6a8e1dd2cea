-- The rows so far are cut, and the others are as they were.
use Rattle.std.proofs.Common.{◌≡◌, ◌++◌, drop, map, take}
use Rattle.fish_catalog.specs.Clamps.{clamped}
use Rattle.fish_catalog.proofs.clamp.clamp_rows.Given as goal

abbrev pub invariant-loop-row : goal.invariant-loop-row
invariant-loop-row l = l.rows ≡ map (clamped l.count) (take l.row-index l.fn.rows) ++ drop l.row-index l.fn.rows
