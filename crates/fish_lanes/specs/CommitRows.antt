-- The definitions between the items of a lane that may change them, and which of them a crash may leave.
use Rattle.std.specs.Prelude.{List, [], ◌∷◌, ◌++◌, Bool, true, false}
use Rattle.fish_catalog.specs.declared.row.CatRow.{CatRow}
use Rattle.fish_disk.specs.declared.disk.Disk.{Ghosts as Disks}
use Rattle.fish_lanes.specs.Registering.{Registry, after, after_all}
use Rattle.fish_report.specs.declared.item.Item.{Item}
use Rattle.fish_report.specs.declared.item.Item.TheVariants as item
use Rattle.fish_store.specs.CommitRows.{LeavesRows}

-- the rows before each item, and after them all
abbrev pub rows_between : Registry → List Item → List (List CatRow)
rows_between r [] = r.rows ∷ []
rows_between r (x ∷ items) = r.rows ∷ rows_between (after r x) items

-- the item tells of a checkpoint
abbrev pub is_checkpoint : Item → Bool
is_checkpoint (item.Checkpointed count) = true
is_checkpoint x = false

-- what a commit may have kept, if one was made
abbrev pub unless_made : Bool → List (List CatRow) → List (List CatRow)
unless_made true was = []
unless_made false was = was

-- of some rows, and of those before each item, those since the last checkpoint
abbrev pub rows_since : Registry → List Item → List (List CatRow) → List (List CatRow)
rows_since r [] was = was
rows_since r (x ∷ items) was = rows_since (after r x) items (unless_made (is_checkpoint x) was ++ r.rows ∷ [])

-- and those after all items
abbrev pub left_rows : Registry → List Item → List (List CatRow) → List (List CatRow)
left_rows r items was = rows_since r items was ++ (after_all r items).rows ∷ []

-- where what a crash left had some rows, it now leaves those of the last checkpoint that an item tells, or of a moment
-- between two items since then; and since the first item, some of these
abbrev pub LeavesRowsOf : {D : Type 0} → Disks D → D → D → Registry → List Item → Type 0
LeavesRowsOf disks disk disk' r items = LeavesRows disks disk disk' (left_rows r items) (rows_between r items)
