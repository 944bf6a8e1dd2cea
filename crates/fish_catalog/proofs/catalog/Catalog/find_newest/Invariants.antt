-- The row that was found is the last so far with the name.
use Rattle.fish_catalog.proofs.Lookups.{FoundBelow}
use Rattle.fish_catalog.proofs.catalog.Catalog.find_newest.Given as goal

-- the row that was found is the last so far with the name
abbrev pub invariant-loop-row : goal.invariant-loop-row
invariant-loop-row l = FoundBelow l.rows l.name l.row-index l.newest
