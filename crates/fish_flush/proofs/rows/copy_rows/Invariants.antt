-- The first rows were copied.
use Rattle.std.proofs.Common.{◌≡◌, take}
use Rattle.fish_flush.proofs.rows.copy_rows.Given as goal

-- the first rows were copied
abbrev pub invariant-loop-row : goal.invariant-loop-row
invariant-loop-row l = l.copy.items ≡ take l.row-index l.rows
