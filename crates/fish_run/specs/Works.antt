-- What lanes of a block are to do.
use Rattle.std.specs.Prelude.{ℕ, ◌≡◌, ◌+◌, List, ◌++◌, Some, slice_get}
use Rattle.fish_lanes.specs.declared.lane.Lane.{Lane}
use Rattle.fish_lanes.specs.declared.work.Work.{Work}

-- what a lane was to do: what it did, and what it hands back
abbrev pub to_do : Lane → List Work
to_do x = x.works ++ x.left

-- lanes have the numbers from 1 on
abbrev pub AreNumbered : List Lane → Type 0
AreNumbered lanes = (i : ℕ) (x : Lane) → slice_get lanes i ≡ Some x → x.number ≡ i + 1
