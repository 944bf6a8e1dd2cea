-- Which key entries a record has: the values that the active definitions give for it. What private clauses need of it.
use Rattle.std.specs.Prelude.{◌≡◌, List, filter, map}
use Rattle.fish_catalog.specs.Rows.{is_active}
use Rattle.fish_catalog.specs.declared.row.CatRow.{CatRow}
use Rattle.fish_psf.specs.declared.key.ActiveDef.{ActiveDef}
use Rattle.fish_rule.specs.Keys.{text_of}

-- the definitions of the active rows, in the order of their ids
abbrev pub AreActive : List CatRow → List ActiveDef → Type 0
AreActive rows defs = map text_of defs ≡ map (λ row. (row.id, row.def)) (filter is_active rows)
