-- Which numbers a lane has seen.
use Rattle.std.specs.Prelude.{ℕ, ◌⊎◌, ◌<◌, ◌≤◌, List, [], ◌∷◌}
use Rattle.fish_lanes.specs.Records.{HasNumber, LaneRow}
use Rattle.fish_report.specs.declared.item.Item.{Item}
use Rattle.fish_report.specs.declared.item.Item.TheVariants as item
use Rattle.fish_rule.specs.Views.{Among}

-- what an item showed: the numbers of a range but the open ones, all below one, or a claim past the log's end
pub data Shown : Type 0 where
  range : ℕ → ℕ → List ℕ → Shown
  settled : ℕ → Shown
  claimed : ℕ → ℕ → ℕ → Shown

-- the number is one of them
abbrev pub IsShown : ℕ → Shown → Type 0
IsShown n (range from to opens) = (from ≤ n) × (n < to) × ¬ Among n opens
IsShown n (settled count) = n < count
IsShown n (claimed line lines end) = ⊥

-- what an item shows
abbrev pub shown_by : Item → List Shown
shown_by (item.Scanned name value from to opens rows version) = range from to opens ∷ []
shown_by (item.Checkpointed count) = settled count ∷ []
shown_by (item.IngestFull file line lines end stored refused) = claimed line lines end ∷ []
shown_by x = []

-- the number lies below the block, or the lane stored it in the block before, or one of its items showed it before
abbrev pub IsSeen : ℕ → List LaneRow → List Shown → ℕ → Type 0
IsSeen from before shown n = (n < from) ⊎ (HasNumber n before ⊎ ((s : Shown) × Among s shown × IsShown n s))
