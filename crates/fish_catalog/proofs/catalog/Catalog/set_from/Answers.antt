-- The row that is written is the one that waits for its beginning.
use Rattle.fish_catalog.proofs.Changes.{IsCatalog-set, set-with_from}
use Rattle.fish_catalog.proofs.catalog.Catalog.set_from.Goals as goal

pub invariant_of-self : goal.invariant_of-self
invariant_of-self c =
    IsCatalog-set _ _ _ _ _ _ c.self.view_is c.from.ensures c.index_mut-row.ensures.value c.requires c.self.invariant

pub returns : goal.returns
returns c = set-with_from _ _ _ _ _ _ c.self.view_is c.from.ensures c.index_mut-row.ensures.value c.requires
