-- How the rows of the catalogue go on from a commit, over steps on the definitions.
use Rattle.std.proofs.Common.{◌≡◌, ℕ, ◌≤◌, List, arith}
use Rattle.fish_catalog.specs.Closing.{with_to}
use Rattle.fish_catalog.specs.Rows.{IsActiveNamed}
use Rattle.fish_catalog.specs.declared.row.CatRow.{CatRow}
use Rattle.fish_flush.proofs.Lasting.{grown_begins, grown_ends, grown_polls}
use Rattle.fish_lang.specs.declared.definition.Def.{Def}
use Rattle.fish_registry.specs.Changing.{Changes}
use Rattle.fish_registry.specs.Refusing.{HasBegunChange, PollSays}
use Rattle.fish_registry.specs.declared.outcome.Poll.{Poll}
use Rattle.fish_registry.specs.declared.registrar.Registrar.{Registrar}
use Rattle.fish_rule.specs.declared.view.View.{View}
use Rattle.fish_store.specs.Sound.{RowsGoOn}

-- a look at the lanes
pub rows_polled : (v u : View) (r s : Registrar) (answer : Poll) → Changes v u → PollSays v r u s answer
    → RowsGoOn v r.catalog s.catalog
rows_polled v u r s answer changes tells n old le grown = grown_polls n old v u r s answer grown le changes tells

-- a registration
pub rows_begun : (v u : View) (r s : Registrar) (name : List ℕ) (def : Def) (id : ℕ) → HasBegunChange v r name def u s id
    → RowsGoOn v r.catalog s.catalog
rows_begun v u r s name def id begun n old le grown = grown_begins n old v u r s name def id grown begun

-- the end of one
pub rows_ended : (v : View) (r s : Registrar) (name : List ℕ) (id to : ℕ) → IsActiveNamed r.catalog name id
    → s.catalog ≡ with_to r.catalog id to → RowsGoOn v r.catalog s.catalog
rows_ended v r s name id to active is n old le grown = grown_ends n old r s name id to grown active is

-- one and then the other
pub rows_both : (v u : View) (a b c : List CatRow) → v.learned.count ≤ u.learned.count → RowsGoOn v a b → RowsGoOn u b c
    → RowsGoOn v a c
rows_both v u a b c more h g n old le grown = g n old (omega arith) (h n old le grown)
