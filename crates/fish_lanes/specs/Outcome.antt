-- What a block leaves and tells besides what its items tell of the log.
use Rattle.std.specs.Prelude.{ℕ, ◌≡◌, ◌≢◌, ◌≤◌, ◌⊎◌, List, [], ◌∷◌, slice_get, Some, None}
use Rattle.fish_catalog.specs.declared.listed.Listed.{Listed}
use Rattle.fish_catalog.specs.declared.row.CatRow.{CatRow}
use Rattle.fish_lanes.specs.Blocks.{EachLane}
use Rattle.fish_lanes.specs.Causes.{HasFaultCause, IsUndamaged}
use Rattle.fish_lanes.specs.Ending.{EndsAlone}
use Rattle.fish_lanes.specs.Full.{AreFullLast, EndsFull}
use Rattle.fish_lanes.specs.Gains.{WasShut, KeepsShut}
use Rattle.fish_lanes.specs.declared.work.LaneFault.{LaneFault}
use Rattle.fish_lanes.specs.declared.work.LaneFault.TheVariants as cause
use Rattle.fish_registry.specs.declared.registrar.Registrar.{Registrar}
use Rattle.fish_lanes.specs.Plans.{PlansHold}
use Rattle.fish_lanes.specs.Registering.{Registry}
use Rattle.fish_lanes.specs.Single.{NamesNone, SaysOnly}
use Rattle.fish_lanes.specs.Sizes.{NamesOneClaim}
use Rattle.fish_lanes.specs.declared.lane.Lane.{Lane}
use Rattle.fish_report.specs.declared.item.Item.TheVariants as item
use Rattle.fish_rule.specs.Views.{AllOf, Among}
use Rattle.fish_rule.specs.declared.view.Shut.{Shut}
use Rattle.fish_rule.specs.declared.view.View.{View}
use Rattle.fish_whole.specs.Whole.{Whole}

-- ---- a full log

-- an item of some lane was refused by this claim
pub record IsFullIn (lanes : List Lane) (line lines end : ℕ) : Type 0 where
  pub at : ℕ
  pub lane : Lane
  pub lane_is : slice_get lanes at ≡ Some lane
  pub file : List ℕ
  pub stored : ℕ
  pub refused : ℕ
  pub among : Among (item.IngestFull file line lines end stored refused) lane.items

-- what shuts the control pass after the block did so before, or an item of a lane tells of it, unless one stopped at a
-- fault; what shut it before still does, and it is shut where an item was refused; and the items of a lane that were
-- refused name one claim
pub record SaysShutBy (v u : View) (lanes : List Lane) : Type 0 where
  pub by : EachLane (λ i x. x.fault ≡ cause.None) lanes → (c : Shut) → u.shut ≡ Some c
      → (v.shut ≡ Some c) ⊎ IsFullIn lanes c.line c.lines c.end
  pub keeps : KeepsShut v u
  pub shuts : (line lines end : ℕ) → IsFullIn lanes line lines end → WasShut u
  pub one : EachLane (λ i x. NamesOneClaim v.shut x.items) lanes

-- ---- statements that are handed back

-- the lane stopped since it found the log full, as it wasn't before the block: it met no fault, its last item and no
-- other tells that the log is full, and after the block the control pass is shut
pub record IsCutShort (v u : View) (x : Lane) : Type 0 where
  pub fault : x.fault ≡ cause.None
  pub last : EndsFull x.items
  pub unshut : v.shut ≡ None
  pub shut : WasShut u

-- so did each lane that hands statements back
abbrev pub HandsBack : View → View → List Lane → Type 0
HandsBack v u lanes = EachLane (λ i x. x.left ≢ [] → IsCutShort v u x) lanes

-- where the log wasn't full before the block, none but the last item of a lane tells that it is
abbrev pub SayFullLast : View → List Lane → Type 0
SayFullLast v lanes = v.shut ≡ None → EachLane (λ i x. AreFullLast x.items) lanes

-- no lane hands any back
abbrev pub LeaveNone : List Lane → Type 0
LeaveNone lanes = EachLane (λ i x. x.left ≡ []) lanes

-- ---- plans

-- what the items of each lane say of plans, where the definitions before the block are these, the rows after it those,
-- and the log ended at a number before it
abbrev pub LanesSayPlans : (ℕ → List Listed → Type 0) → Registry → List CatRow → ℕ → List Lane → Type 0
LanesSayPlans Are r rows from lanes = EachLane (λ i x. PlansHold Are r rows from x.works x.items) lanes

-- ---- one lane

-- the items of a block of one lane name no open number and no other lane; and where no registration waited for its
-- boundary, one statement that is all of the block tells what can be told where nothing runs beside it
pub record SaysAloneBy (Past : Whole → Type 0) (v u : View) (r : Registrar) (x : Lane) : Type 0 where
  pub closed : AllOf NamesNone x.items
  pub only : (end : ℕ) → EndsAlone v end → r.waiting ≡ None → SaysOnly Past v u r.catalog end x.works x.items

-- the same where the lane is all of the block
abbrev pub SaysAlone : (Whole → Type 0) → View → View → Registrar → List Lane → Type 0
SaysAlone Past v u r lanes = (x : Lane) → lanes ≡ x ∷ [] → SaysAloneBy Past v u r x

-- ---- passes

-- no lane has a pass
abbrev pub AreVacant : List Lane → Type 0
AreVacant lanes = EachLane (λ i x. x.seat ≡ None) lanes

-- ---- faults

-- a lane stops at this fault: at one of the disk only where the disk's count of faults rose, which never falls, and at
-- damage of no past that a disk has whole
pub record Stops (Past : Whole → Type 0) (before now : ℕ) (fault : LaneFault) : Type 0 where
  pub later : before ≤ now
  pub cause : HasFaultCause before now fault
  pub whole : (past : Whole) → Past past → IsUndamaged fault
