-- Each row so far may be kept.
use Rattle.std.proofs.Common.{◌≡◌, ℕ, ◌<◌, Some, slice_get}
use Rattle.fish_catalog.specs.Rows.{IsRow}
use Rattle.fish_catalog.specs.declared.row.CatRow.{CatRow}
use Rattle.fish_catalog.proofs.restore.are_rows.Given as goal

-- each row so far may be kept
abbrev pub invariant-loop-row : goal.invariant-loop-row
invariant-loop-row l = (k : ℕ) → k < l.row-index → (row : CatRow) → slice_get l.rows k ≡ Some row → IsRow row
