-- What the items of a sample's lanes have to be, and the lines that they give.
use Rattle.std.specs.Prelude.{ℕ, List, [], ◌++◌, ◌==◌, ◌&&◌, Bool, true, false, codes, length}
use Rattle.std.specs.List.{flat_map, list_all}
use Rattle.fish_lanes.specs.declared.lane.Lane.{Lane}
use Rattle.fish_lanes.specs.declared.work.LaneFault.{LaneFault}
use Rattle.fish_lanes.specs.declared.work.LaneFault.TheVariants as fault
use Rattle.fish_report.specs.declared.item.Item.{Item}
use Rattle.fish_report.specs.declared.item.Item.TheVariants as item
use Rattle.fish_sample.specs.Sample.{count_line, number_line}

-- no fault
abbrev pub is_none_fault : LaneFault → Bool
is_none_fault fault.None = true
is_none_fault x = false

-- a definition was registered, and where its index begins is known
abbrev pub is_registered : Item → Bool
is_registered (item.Registered name id from def) = true
is_registered x = false

-- a file was stored, and each of its lines is a record
abbrev pub is_stored : Item → Bool
is_stored (item.Ingested file stored refused) = refused == 0
is_stored x = false

-- a scan was answered, and no number is open
abbrev pub is_scanned : Item → Bool
is_scanned (item.Scanned name value from to opens rows version) = length opens == 0
is_scanned x = false

-- a lane met no fault, and hands nothing back
abbrev pub is_whole_lane : Lane → Bool
is_whole_lane x = is_none_fault x.fault && (length x.left == 0)

-- each item of a lane is of a file that was stored
abbrev pub is_all_stored : Lane → Bool
is_all_stored x = list_all is_stored x.items

-- how many it found
abbrev pub item_line : Item → List ℕ
item_line (item.Scanned name value from to opens rows version) = count_line name value (length rows)
item_line x = []

-- the summary by the items of the scans
abbrev pub items_text : ℕ → List Item → List ℕ
items_text number items = number_line (codes "sample") number
    ++ (flat_map item_line items ++ number_line (codes "stored") number)
