-- The rows so far are kept.
use Rattle.std.proofs.Common.{◌≡◌, ℕ, Some, length, slice_get}
use Rattle.fish_catalog.specs.declared.row.CatRow.{CatRow}
use Rattle.fish_image.specs.Terms.{IsIndexRow}
use Rattle.fish_image.specs.declared.terms.IndexRow.{IndexRow}
use Rattle.fish_image.proofs.opening.index_rows.Given as goal

-- the rows so far are kept
abbrev pub invariant-loop-row : goal.invariant-loop-row
invariant-loop-row l = record {
  size : length l.xs.items ≡ l.row-index;
  each : (id : ℕ) (row : CatRow) (x : IndexRow) → slice_get l.rows id ≡ Some row → slice_get l.xs.items id ≡ Some x → IsIndexRow row x;
}
