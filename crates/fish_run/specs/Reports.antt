-- The report of a run: the items of its blocks, in the order in which they are written.
use Rattle.std.specs.Prelude.{ℕ, None, List, [], ◌∷◌, ◌++◌, Bool, true, false, if◌then◌else◌, nat_eq}
use Rattle.std.specs.List.{flat_map, list_any}
use Rattle.fish_lanes.specs.Controlling.{bound_items}
use Rattle.fish_lanes.specs.declared.block.BlockEnd.{BlockEnd}
use Rattle.fish_report.specs.ReportText.{is_refusal}
use Rattle.fish_report.specs.declared.item.Item.{Item}
use Rattle.fish_report.specs.declared.item.Item.TheVariants as item
use Rattle.fish_run.specs.Blocks.{Block, Round}
use Rattle.fish_run.specs.Joins.{block_said}
use Rattle.fish_run.specs.declared.saying.Said.{Said}

-- the number of a lane stands above its items, where there are several
abbrev pub lane_head : Bool → ℕ → List Item
lane_head false number = []
lane_head true number = item.Lane number ∷ []

-- after those of the first stands the boundary that was found once the lanes had ended
abbrev pub lane_foot : ℕ → BlockEnd → List Item
lane_foot number end = if nat_eq number 1 then bound_items end.bound else []

-- the items of a lane
abbrev pub lane_items : Bool → BlockEnd → Said → List Item
lane_items several end x = lane_head several x.number ++ (x.items ++ lane_foot x.number end)

-- the range of several lanes stands above them, and their end below
abbrev pub block_head : Bool → ℕ → ℕ → List Item
block_head false from to = []
block_head true from to = item.Lanes from to ∷ []

abbrev pub block_foot : Bool → List Item
block_foot false = []
block_foot true = item.End ∷ []

-- the items of lanes
abbrev pub said_items : Bool → ℕ → BlockEnd → List Said → List Item
said_items several from end said =
    block_head several from end.to ++ (flat_map (lane_items several end) said ++ block_foot several)

-- where rounds begin and end
abbrev pub first_number : List Round → ℕ
first_number [] = 0
first_number (a ∷ rounds) = a.span.from

abbrev pub last_end : BlockEnd → List Round → BlockEnd
last_end end [] = end
last_end end (b ∷ rounds) = last_end b.end rounds

abbrev pub end_of_rounds : List Round → BlockEnd
end_of_rounds [] = record { to = 0; bound = None }
end_of_rounds (a ∷ rounds) = last_end a.end rounds

-- the items of a block
abbrev pub block_items : Block → List Item
block_items b = said_items b.several (first_number b.rounds) (end_of_rounds b.rounds) (block_said b.rounds)

-- the first item of a run: its store was made, or opened with so many entries
abbrev pub first_item : Bool → ℕ → Item
first_item true count = item.Created
first_item false count = item.Opened count

-- the items of blocks, after the first one
abbrev pub report_of : Item → List Block → List Item
report_of first blocks = first ∷ flat_map block_items blocks

-- the report of a run that came to its end, with so many entries
abbrev pub whole_report : Item → List Block → ℕ → List Item
whole_report first blocks count = report_of first blocks ++ item.Closed count ∷ []

-- ---- refusals

-- a statement of some lane was refused
abbrev pub said_refused : List Said → Bool
said_refused said = list_any (λ x. list_any is_refusal x.items) said

-- one of some block was
abbrev pub are_refused : List Block → Bool
are_refused blocks = list_any (λ b. said_refused (block_said b.rounds)) blocks
