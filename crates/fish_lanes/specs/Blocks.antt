-- The lanes of a block: how the control pass gives each its pass, what they do, and how it takes the passes back.
use Rattle.std.specs.Prelude.{ℕ, ◌≡◌, ◌+◌, ◌++◌, ◌<◌, ◌≤◌, List, [], All, length, slice_get, Some, None}
use Rattle.fish_catalog.specs.declared.entry.Entry.{Entry}
use Rattle.fish_catalog.specs.declared.entry.Entry.TheVariants as entry
use Rattle.fish_lanes.specs.Controlling.{bound_items}
use Rattle.fish_lanes.specs.Ending.{EndsAlone}
use Rattle.fish_lanes.specs.declared.block.BlockEnd.{BlockEnd}
use Rattle.fish_lanes.specs.declared.work.LaneFault.TheVariants as cause
use Rattle.fish_registry.specs.declared.registrar.Registrar.{Registrar}
use Rattle.fish_lanes.specs.Pending.{AreFound}
use Rattle.fish_lanes.specs.Records.{rows_of_lane}
use Rattle.fish_lanes.specs.Registering.{ItemsFit, IsAcceptable, KnowsEach, after_all, registry_of}
use Rattle.fish_lanes.specs.Running.{IsEnded, IsShared}
use Rattle.fish_lanes.specs.Spans.{IsAnswerItem, Span}
use Rattle.fish_lanes.specs.Telling.{SaysLane}
use Rattle.fish_lanes.specs.declared.lane.Lane.{Lane}
use Rattle.fish_lanes.specs.Gains.{IsMarkAt}
use Rattle.fish_report.specs.declared.item.Item.{Item}
use Rattle.fish_report.specs.declared.item.Item.TheVariants as item
use Rattle.fish_rule.specs.Views.{AllOf}
use Rattle.fish_rule.specs.ChainFacts.{Always}
use Rattle.fish_rule.specs.declared.view.View.{View}
use Rattle.fish_value.specs.declared.field.Form.{Form}
use Rattle.fish_whole.specs.Whole.{Whole}

-- ---- lists of lanes

-- each lane meets P at its position
abbrev pub EachLane : (ℕ → Lane → Type 0) → List Lane → Type 0
EachLane P lanes = (i : ℕ) (x : Lane) → slice_get lanes i ≡ Some x → P i x

-- the lanes at each position meet P, before and after
abbrev pub EachLanePair : (ℕ → Lane → Lane → Type 0) → List Lane → List Lane → Type 0
EachLanePair P old new = (i : ℕ) (x y : Lane) → slice_get old i ≡ Some x → slice_get new i ≡ Some y → P i x y

-- ---- before a block

-- the lane has this number, and no item yet, and hands nothing back
pub record IsNewLane (number : ℕ) (x : Lane) : Type 0 where
  pub number_is : x.number ≡ number
  pub empty : x.items ≡ []
  pub nothing_left : x.left ≡ []

-- there are 1 to 16 lanes, with the numbers from 1 on; the first alone may commit, and change definitions, as a
-- registrar asks
pub record AreLanes (lanes : List Lane) : Type 0 where
  pub some : 1 ≤ length lanes
  pub few : length lanes ≤ 16
  pub new : EachLane (λ i x. IsNewLane (i + 1) x) lanes
  pub acceptable : (x : Lane) → slice_get lanes 0 ≡ Some x → All IsAcceptable x.works
  pub shared : (i : ℕ) (x : Lane) → 0 < i → slice_get lanes i ≡ Some x → All IsShared x.works

-- ---- afterwards

-- the block lies between the log's end before it and after it, and between the versions there; and what had shut the
-- pass
pub record IsBlockSpan (v t : View) (to : ℕ) (s : Span) : Type 0 where
  pub begins : EndsAlone v s.from
  pub ends : s.to ≡ to
  pub first : s.first ≤ v.learned.version
  pub last : t.learned.version ≤ s.last
  pub full : s.full ≡ v.shut

-- every record of the log between the block's ends is of one of so many lanes
abbrev pub StoresByLanes : Span → List Entry → ℕ → Type 0
StoresByLanes s log many = (n lane : ℕ) (form : Form) (payload : List ℕ) → s.from ≤ n → n < s.to
    → slice_get log n ≡ Some (entry.Stored lane form payload) → (1 ≤ lane) × (lane ≤ many)

-- what a block tells of the whole log: each lane's items, of its records between the two ends; there no other lane has
-- stored any; and the log goes up to the block's end
pub record SaysBlock (w : Whole) (s : Span) (lanes : List Lane) : Type 0 where
  pub each : EachLane (λ i x. SaysLane w s (rows_of_lane w.log s.from s.to (i + 1)) x.works x.items) lanes
  pub own : StoresByLanes s w.log (length lanes)
  pub within : s.to ≤ length w.log

-- the items that tell of the definitions: those of the first lane, and the boundary that was found once the lanes had
-- ended
abbrev pub control_items : Lane → BlockEnd → List Item
control_items x end = x.items ++ bound_items end.bound

-- its items fit the registry where they stand, and the definitions that they tell are those of the words; of each that
-- tells of a registration which waits, the load that found the lane for which it does was made in the block; unless the
-- first lane stopped at a fault, the definitions after the block are those that its items tell; and none waits for its
-- boundary
pub record HasRegistered (v t : View) (r s : Registrar) (x : Lane) (end : BlockEnd) : Type 0 where
  pub found : AreFound v.clock t.clock (registry_of v r) x.items
  pub known : KnowsEach t (registry_of v r) x.items
  pub so : (k : Span) → IsBlockSpan v t end.to k → ItemsFit k.from (k.to + 16) (registry_of v r) x.items
  pub whole : x.fault ≡ cause.None → (k : Span) → IsBlockSpan v t end.to k
      → ItemsFit k.from (k.to + 16) (registry_of v r) (control_items x end)
  pub is : x.fault ≡ cause.None → registry_of t s ≡ after_all (registry_of v r) (control_items x end)
  pub each : x.fault ≡ cause.None → KnowsEach t (registry_of v r) (control_items x end)
  pub settled : s.waiting ≡ None

-- an item that was refused since the log is full names a mark, and the log's end
abbrev pub IsMarkItem : View → Item → Type 0
IsMarkItem u x = (file : List ℕ) (line lines end stored refused : ℕ)
    → x ≡ item.IngestFull file line lines end stored refused
    → Always u (IsMarkAt line lines) × (end ≡ u.about.end)

-- the statements of the lane at a position have items, but for those after a fault, and only the first lane tells
-- besides where an index begins
pub record IsEndedLane (position : ℕ) (x : Lane) : Type 0 where
  pub ended : IsEnded x.works x.items x.fault
  pub answers : 0 < position → AllOf IsAnswerItem x.items

abbrev pub AreEnded : List Lane → Type 0
AreEnded lanes = EachLane IsEndedLane lanes

abbrev pub NameMarks : View → List Lane → Type 0
NameMarks u lanes = EachLane (λ i x. AllOf (IsMarkItem u) x.items) lanes

-- the lane keeps its number, and its statements but for the last ones, which it hands back
pub record IsKept (x y : Lane) : Type 0 where
  pub number : y.number ≡ x.number
  pub works : x.works ≡ y.works ++ y.left

abbrev pub AreKept : List Lane → List Lane → Type 0
AreKept old new = EachLanePair (λ i x y. IsKept x y) old new
