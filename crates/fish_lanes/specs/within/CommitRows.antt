-- The definitions between the items of a lane that may change them. What private clauses need of it.
use Rattle.std.specs.Prelude.{List, [], ◌∷◌, ◌++◌, Result, Ok, Err}
use Rattle.fish_catalog.specs.declared.row.CatRow.{CatRow}
use Rattle.fish_lanes.specs.CommitRows.{is_checkpoint, unless_made}
use Rattle.fish_report.specs.declared.item.Item.{Item}

-- what one statement makes of some rows, where these are there before it
abbrev pub rows_by : {E : Type 0} → Result Item E → List CatRow → List (List CatRow) → List (List CatRow)
rows_by (Ok x) rows was = unless_made (is_checkpoint x) was ++ rows ∷ []
rows_by (Err why) rows was = was ++ rows ∷ []
