-- What the lanes of a block say over its rounds: the parts of a file are told in one item.
use Rattle.std.specs.Prelude.{ℕ, ◌+◌, List, [], ◌∷◌, ◌++◌, Bool, false, true, Option, None, map, min}
use Rattle.fish_lanes.specs.Controlling.{bound_items}
use Rattle.fish_lanes.specs.declared.block.Boundary.{Boundary}
use Rattle.fish_lanes.specs.declared.lane.Lane.{Lane}
use Rattle.fish_lanes.specs.declared.work.Work.{Work}
use Rattle.fish_lanes.specs.declared.work.Work.TheVariants as work
use Rattle.fish_lines.specs.declared.resuming.Begin.{Begin}
use Rattle.fish_lines.specs.declared.resuming.Begin.TheVariants.{After, Start}
use Rattle.fish_report.specs.declared.item.Item.{Item}
use Rattle.fish_report.specs.declared.item.Item.TheVariants as item
use Rattle.fish_run.specs.Blocks.{Round}
use Rattle.fish_run.specs.declared.saying.Said.{Said}

-- ---- the item of a file

-- counts that are added up, up to the greatest of 32 bits
abbrev pub sum_of : ℕ → ℕ → ℕ
sum_of a b = min (a + b) 4294967295

-- an item that tells of the rest of a file, of the whole of it: so many more are stored and refused before
abbrev pub with_more : ℕ → ℕ → Item → Item
with_more s r (item.Ingested file stored refused) = item.Ingested file (sum_of s stored) (sum_of r refused)
with_more s r (item.IngestFull file line lines end stored refused) =
    item.IngestFull file line lines end (sum_of s stored) (sum_of r refused)
with_more s r (item.IngestTooLong file stored refused) = item.IngestTooLong file (sum_of s stored) (sum_of r refused)
with_more s r x = x

-- the item of the first parts of a file and that of the next one, in one; once the log was full, and no new table was
-- begun, it stays: nothing is after a mark, so no later part stores anything, and only lines before it are counted
abbrev pub joined_items : Bool → Item → Item → Item
joined_items fresh (item.Ingested file stored refused) y = with_more stored refused y
joined_items true (item.IngestFull file line lines end stored refused) y = with_more stored refused y
joined_items fresh x y = x

abbrev pub first_joined : Bool → Item → List Item → List Item
first_joined fresh x [] = x ∷ []
first_joined fresh x (y ∷ items) = joined_items fresh x y ∷ items

-- the item is of a file that may go on
abbrev pub is_part : Item → Bool
is_part (item.Ingested file stored refused) = true
is_part (item.IngestFull file line lines end stored refused) = true
is_part x = false

-- the first of these statements goes on with a file
abbrev pub is_after : Begin → Bool
is_after After = true
is_after (Start header) = false

abbrev pub goes_on : List Work → Bool
goes_on [] = false
goes_on (work.Ingest form begin name file ∷ ws) = is_after begin
goes_on (w ∷ ws) = false

-- ---- what lanes say

-- what a lane says after its last item, where a boundary was found in between and it goes on with that item's file
abbrev pub part_after : Bool → Bool → Item → List Item → List Item → List Item
part_after true fresh x bound items = bound ++ first_joined fresh x items
part_after false fresh x bound items = x ∷ (bound ++ items)

-- what a lane says after what it said before
abbrev pub said_after : Bool → Bool → List Item → List Item → List Item → List Item
said_after fresh false before bound items = before ++ (bound ++ items)
said_after fresh true [] bound items = bound ++ items
said_after fresh true (x ∷ []) bound items = part_after (is_part x) fresh x bound items
said_after fresh true (x ∷ y ∷ before) bound items = x ∷ said_after fresh true (y ∷ before) bound items

-- the same of lanes: the first one tells of the boundary
abbrev pub lanes_after : Bool → List Item → List Said → List Lane → List Said
lanes_after fresh bound [] lanes = []
lanes_after fresh bound (s ∷ said) [] = s ∷ said
lanes_after fresh bound (s ∷ said) (x ∷ lanes) =
    record { number = s.number; items = said_after fresh (goes_on x.works) s.items bound x.items } ∷ lanes_after fresh
    [] said lanes

-- before a block its lanes have said nothing
abbrev pub nothing_said : List Lane → List Said
nothing_said lanes = map (λ x. record { number = x.number; items = [] }) lanes

-- what lanes say over rounds, after what they said before, when this boundary had been found last
abbrev pub said_over : List Said → Option Boundary → List Round → List Said
said_over said bound [] = said
said_over said bound (b ∷ rounds) = said_over (lanes_after b.fresh (bound_items bound) said b.lanes) b.end.bound rounds

-- what the lanes of a block say over its rounds
abbrev pub block_said : List Round → List Said
block_said [] = []
block_said (a ∷ rounds) = said_over (nothing_said a.lanes) None (a ∷ rounds)
