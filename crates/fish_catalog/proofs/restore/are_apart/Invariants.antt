-- No active row so far has the name of an active one before it.
use Rattle.std.proofs.Common.{◌≡◌, ℕ, ◌<◌, Some, slice_get, take}
use Rattle.fish_catalog.specs.within.Restoring.{IsOnlyName}
use Rattle.fish_catalog.specs.Rows.{IsActive}
use Rattle.fish_catalog.specs.declared.row.CatRow.{CatRow}
use Rattle.fish_catalog.proofs.restore.are_apart.Given as goal

-- no active row so far has the name of an active one before it
abbrev pub invariant-loop-position : goal.invariant-loop-position
invariant-loop-position l =
    (k : ℕ) → k < l.position → (row : CatRow) → slice_get l.rows k ≡ Some row → IsActive row → IsOnlyName (take k l.rows) row.name
