-- The new row keeps what always holds.
use Rattle.std.proofs.Common.{rules, ◌≡◌, length}
use Rattle.fish_catalog.proofs.Changes.{IsCatalog-added}
use Rattle.fish_catalog.proofs.catalog.Catalog.push_row.Goals as goal

pub invariant_of-self-2 : goal.invariant_of-self-2
invariant_of-self-2 c =
    let next : c.len-id.result ≡ length c.self.inside.rows.items = search rules in
    IsCatalog-added _ _ _ _ _ _ _ _ c.self.view_is c.in_ok-push.ensures.items next c.in_ok-again.ensures
    c.in_ok-again-2.ensures c.self.invariant c.requires.name c.requires.def c.requires.apart c.requires.active
    c.requires.room
