-- The index of each row so far that is active and has the name has begun at the number or before it.
use Rattle.std.proofs.Common.{ℕ, ◌<◌}
use Rattle.fish_catalog.specs.Closing.{AwaitsTo}
use Rattle.fish_catalog.specs.Rows.{IsActiveNamed}
use Rattle.tests_language.proofs.catalog.may_close.Given as goal

abbrev pub invariant-loop-row : goal.invariant-loop-row
invariant-loop-row l = (id : ℕ) → id < l.row-index → IsActiveNamed l.rows l.name id → AwaitsTo l.rows id l.to
