-- No row so far is active and has the name.
use Rattle.std.proofs.Common.{◌≡◌}
use Rattle.fish_catalog.specs.Rows.{IsActive}
use Rattle.fish_catalog.proofs.Lookups.{NoneBelow}
use Rattle.fish_catalog.proofs.restore.is_alone.Given as goal

-- no row so far is active and has the name
abbrev pub invariant-loop-other : goal.invariant-loop-other
invariant-loop-other l = NoneBelow (λ other. IsActive other × (other.name ≡ l.row.name)) l.rows l.other-index
