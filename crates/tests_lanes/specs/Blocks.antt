-- The lanes of a block, and a store between blocks.
use Rattle.std.specs.Prelude.{ℕ, ◌≡◌, ◌+◌, ◌<◌, List, All, Some, length}
use Rattle.fish_outside.specs.Bounded.{content_in}
use Rattle.fish_disk.specs.declared.sure.SureDisk.{SureDisk}
use Rattle.fish_lanes.specs.Between.{IsBetweenBlocks}
use Rattle.fish_lanes.specs.Blocks.{EachLane, IsNewLane}
use Rattle.fish_lanes.specs.Registering.{IsAcceptable}
use Rattle.fish_lanes.specs.Running.{IsShared}
use Rattle.fish_lanes.specs.declared.lane.Lane.{Lane}
use Rattle.fish_lanes.specs.declared.work.Work.{Work}
use Rattle.fish_store.specs.declared.store.Store.{Store}

-- a lane with this number may do the statement: the first one alone changes definitions and commits
pub record IsAllowed (number : ℕ) (w : Work) : Type 0 where
  pub acceptable : IsAcceptable w
  pub shared : 1 < number → IsShared w

-- the lane is new, and may do its statements
pub record IsMade (number : ℕ) (x : Lane) : Type 0 where
  pub new : IsNewLane number x
  pub works : All (IsAllowed number) x.works

-- so many lanes, with the numbers from 1 on
pub record AreNew (count : ℕ) (lanes : List Lane) : Type 0 where
  pub many : length lanes ≡ count
  pub each : EachLane (λ i x. IsMade (i + 1) x) lanes

-- the store is between two blocks, after some number of entries
abbrev pub IsBetween : {D : Type 0} → (D → List ℕ → Type 0) → D → Store → Type 0
IsBetween images disk s = (from : ℕ) × IsBetweenBlocks images disk s from

-- the same of a store on a disk that never fails
abbrev pub IsHeld : SureDisk → Store → Type 0
IsHeld disk s = IsBetween (λ d c. content_in d ≡ Some c) disk s
