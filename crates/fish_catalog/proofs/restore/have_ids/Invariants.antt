-- The ids so far are their positions.
use Rattle.std.proofs.Common.{◌≡◌, ℕ, ◌<◌, Some, slice_get}
use Rattle.fish_catalog.specs.declared.row.CatRow.{CatRow}
use Rattle.fish_catalog.proofs.restore.have_ids.Given as goal

-- the ids so far are their positions
abbrev pub invariant-loop-position : goal.invariant-loop-position
invariant-loop-position l = (k : ℕ) → k < l.position → (row : CatRow) → slice_get l.rows k ≡ Some row → row.id ≡ k
