-- No row so far is active and has the name.
use Rattle.std.proofs.Common.{◌≡◌}
use Rattle.fish_catalog.specs.Rows.{IsActive}
use Rattle.fish_catalog.proofs.Lookups.{NoneBelow}
use Rattle.fish_catalog.proofs.catalog.Catalog.find_active.Given as goal

-- no row so far is active and has the name
abbrev pub invariant-loop-row : goal.invariant-loop-row
invariant-loop-row l = NoneBelow (λ row. IsActive row × (row.name ≡ l.name)) l.rows l.row-index
