-- The row that is written is the one that has no end.
use Rattle.fish_catalog.proofs.Closing.{IsCatalog-closed, set-with_to}
use Rattle.fish_catalog.proofs.catalog.Catalog.set_to.Goals as goal

pub invariant_of-self : goal.invariant_of-self
invariant_of-self c =
    IsCatalog-closed _ _ _ _ _ _ c.self.view_is c.from.ensures c.index_mut-row.ensures.value c.requires c.self.invariant

pub returns : goal.returns
returns c = set-with_to _ _ _ _ _ _ c.self.view_is c.from.ensures c.index_mut-row.ensures.value c.requires
