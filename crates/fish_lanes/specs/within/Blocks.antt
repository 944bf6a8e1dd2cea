-- The lanes of a block: how the control pass gives each its pass, what they do, and how it takes the passes back.
use Rattle.std.specs.Prelude.{ℕ, ◌≡◌, ◌⊎◌, ◌+◌, ◌++◌, ◌<◌, ◌≤◌, List, [], All, length, slice_get, slice_index_or, Some}
use Rattle.std.specs.Prelude.{None}
use Rattle.fish_lanes.specs.within.Advancing.{HasGone}
use Rattle.fish_lanes.specs.within.Controlled.{HasControlled}
use Rattle.fish_lanes.specs.within.Full.{StopsFull}
use Rattle.fish_registry.specs.declared.registrar.Registrar.{Registrar}
use Rattle.fish_lanes.specs.Records.{rows_of_lane}
use Rattle.fish_lanes.specs.Registering.{IsAcceptable, KnowsRegistry, registry_of}
use Rattle.fish_lanes.specs.within.Registering.{KeepsRegistry}
use Rattle.fish_lanes.specs.Running.{IsShared}
use Rattle.fish_lanes.specs.within.Running.{CanBegin, HasDone, IsLaneReady}
use Rattle.fish_lanes.specs.Spans.{Span}
use Rattle.fish_lanes.specs.Telling.{SaysLane}
use Rattle.fish_lanes.specs.declared.lane.Lane.{Lane}
use Rattle.fish_lanes.specs.declared.lane.LanePass.{LanePass}
use Rattle.fish_rule.specs.Logs.{Learns}
use Rattle.fish_rule.specs.Passes.{IsPassOf, view}
use Rattle.fish_rule.specs.LoadSteps.{after_load_tail}
use Rattle.fish_rule.specs.SeatSteps.{CanJoinPass, join_both}
use Rattle.fish_lanes.specs.Gains.{WasShut, KeepsShut}
use Rattle.fish_rule.specs.Views.{Among}
use Rattle.fish_rule.specs.Clocks.{IsLater}
use Rattle.fish_rule.specs.declared.view.Shut.{Shut}
use Rattle.fish_rule.specs.declared.table.Log.{Log}
use Rattle.fish_rule.specs.declared.view.Epoch.TheVariants.{Out}
use Rattle.fish_rule.specs.declared.view.Own.{Own}
use Rattle.fish_rule.specs.declared.view.View.{View}
use Rattle.fish_whole.specs.Whole.{WholeFact, Whole}
use Rattle.fish_lanes.specs.Blocks.{EachLane, EachLanePair, IsNewLane}

-- the lane got a pass with this view
pub record HasSeat (log : Log) (u : View) (x y : Lane) : Type 0 where
  pub seat : LanePass
  pub is : y ≡ record x { seat = Some seat }
  pub of : IsPassOf log seat.pass
  pub view_is : view seat.pass ≡ u

-- the control pass has all lanes, and is out with nothing in flight
pub record CanGive (v : View) (lanes : List Lane) : Type 0 where
  pub control : v.lane ≡ 1
  pub all : v.out ≡ []
  pub idle : v.flight ≡ None
  pub outside : v.epoch ≡ Out
  pub few : length lanes < 16
  pub new : EachLane (λ i x. IsNewLane (i + 2) x) lanes
  pub shared : EachLane (λ i x. All IsShared x.works) lanes

-- it gave out the lanes from 2 on, so many, and is else as it was
pub record HasGiven (v m : View) (many : ℕ) : Type 0 where
  pub control : m.lane ≡ 1
  pub idle : m.flight ≡ None
  pub outside : m.epoch ≡ Out
  pub about : m.about ≡ v.about
  pub learned : m.learned ≡ v.learned
  pub clock : IsLater v.clock m.clock
  pub shut : m.shut ≡ v.shut
  pub registry : KeepsRegistry v m
  pub own : (o : Own) → Among o m.own → Among o v.own
  pub out_of : (l : ℕ) → Among l m.out → (2 ≤ l) × (l < many + 2)
  pub all_out : (l : ℕ) → 2 ≤ l → l < many + 2 → Among l m.out
  pub none : many ≡ 0 → m ≡ v

-- a lane has a pass that knows what the control pass knew, and the records of this lane among its own
pub record IsSeated (log : Log) (v : View) (i : ℕ) (x y : Lane) : Type 0 where
  pub seat : LanePass
  pub is : y ≡ record x { seat = Some seat }
  pub can : CanBegin log seat.pass
  pub lane : (view seat.pass).lane ≡ i + 2
  pub about : (view seat.pass).about ≡ v.about
  pub learned : (view seat.pass).learned ≡ v.learned
  pub shut : (view seat.pass).shut ≡ v.shut
  pub own : (o : Own) → Among o (view seat.pass).own → Among o v.own × (o.lane ≡ i + 2)

abbrev pub AreSeated : Log → View → List Lane → List Lane → Type 0
AreSeated log v old new = EachLanePair (IsSeated log v) old new

abbrev pub AreReady : Log → List Lane → Type 0
AreReady log lanes = All (IsLaneReady log) lanes

-- they went on at once, up to scans of older records
pub record AreGone (log : Log) (old new : List Lane) : Type 0 where
  pub each : (i : ℕ) (d : Lane) → i < length old → HasGone log (slice_index_or old i d) (slice_index_or new i d)

-- they did them
abbrev pub AreDone : (Whole → Type 0) → Log → List Lane → List Lane → Type 0
AreDone Past log old new = EachLanePair (λ i x y. HasDone Past log x y) old new

-- the control pass may do the statements of the first lane
pub record IsFirstLane (v : View) (r : Registrar) (x : Lane) : Type 0 where
  pub known : KnowsRegistry v (registry_of v r)
  pub acceptable : All IsAcceptable x.works
  pub empty : x.items ≡ []
  pub nothing_left : x.left ≡ []

-- it did them
pub record HasRunFirst (Past : Whole → Type 0) (v u : View) (r s : Registrar) (x y : Lane) : Type 0 where
  pub controlled : HasControlled Past v u r s y.works y.items y.fault
  pub stops : StopsFull v u y
  pub works : x.works ≡ y.works ++ y.left
  pub number : y.number ≡ x.number
  pub seat : y.seat ≡ x.seat

-- the lane has a pass that may come back
pub record CanTake (log : Log) (m : View) (x : Lane) : Type 0 where
  pub seat : LanePass
  pub seat_is : x.seat ≡ Some seat
  pub of : IsPassOf log seat.pass
  pub can : CanJoinPass m (view seat.pass)

-- it came back
pub record HasTakenSeat (m u : View) (seat : LanePass) : Type 0 where
  pub found : ℕ
  pub view_is : u ≡ after_load_tail (join_both m (view seat.pass)) found
  pub learns : Learns m u
  pub learned : Learns (view seat.pass) u

abbrev pub HasTakenLane : View → View → Lane → Type 0
HasTakenLane m u x = (seat : LanePass) → x.seat ≡ Some seat → HasTakenSeat m u seat

-- a lane keeps all but its pass
pub record WasTaken (x y : Lane) : Type 0 where
  pub seat : y.seat ≡ None
  pub number : y.number ≡ x.number
  pub works : y.works ≡ x.works
  pub items : y.items ≡ x.items
  pub fault : y.fault ≡ x.fault
  pub left : y.left ≡ x.left

abbrev pub WereTaken : List Lane → List Lane → Type 0
WereTaken old new = EachLanePair (λ i x y. WasTaken x y) old new

-- the lane at a position has a pass of its number that is out with nothing in flight
pub record IsBack (log : Log) (i : ℕ) (x : Lane) : Type 0 where
  pub seat : LanePass
  pub seat_is : x.seat ≡ Some seat
  pub of : IsPassOf log seat.pass
  pub lane : (view seat.pass).lane ≡ i + 2
  pub idle : (view seat.pass).flight ≡ None
  pub outside : (view seat.pass).epoch ≡ Out

-- exactly these lanes are out, and may come back
pub record AreJoined (log : Log) (m : View) (lanes : List Lane) : Type 0 where
  pub control : m.lane ≡ 1
  pub idle : m.flight ≡ None
  pub outside : m.epoch ≡ Out
  pub out_of : (l : ℕ) → Among l m.out → (2 ≤ l) × (l < length lanes + 2)
  pub all_out : (l : ℕ) → 2 ≤ l → l < length lanes + 2 → Among l m.out
  pub back : EachLane (IsBack log) lanes

-- one of the first so many lanes has this among its own records
pub record IsOwnOfLane (lanes : List Lane) (many : ℕ) (o : Own) : Type 0 where
  pub position : ℕ
  pub lane : Lane
  pub seat : LanePass
  pub below : position < many
  pub lane_is : slice_get lanes position ≡ Some lane
  pub seat_is : lane.seat ≡ Some seat
  pub among : Among o (view seat.pass).own

-- this shut the pass of one of the first so many lanes
pub record IsShutOfLane (lanes : List Lane) (many : ℕ) (s : Shut) : Type 0 where
  pub position : ℕ
  pub lane : Lane
  pub seat : LanePass
  pub below : position < many
  pub lane_is : slice_get lanes position ≡ Some lane
  pub seat_is : lane.seat ≡ Some seat
  pub shut_is : (view seat.pass).shut ≡ Some s

-- so many of them came back
pub record HasTakenAll (m u : View) (lanes : List Lane) (many : ℕ) : Type 0 where
  pub control : u.lane ≡ 1
  pub idle : u.flight ≡ None
  pub outside : u.epoch ≡ Out
  pub learns : Learns m u
  pub registry : KeepsRegistry m u
  pub learned : (i : ℕ) (x : Lane) (seat : LanePass) → i < many → slice_get lanes i ≡ Some x → x.seat ≡ Some seat
      → Learns (view seat.pass) u
  pub own : (o : Own) → Among o u.own → Among o m.own ⊎ IsOwnOfLane lanes many o
  pub shut : (s : Shut) → u.shut ≡ Some s → (m.shut ≡ Some s) ⊎ IsShutOfLane lanes many s
  pub keeps : KeepsShut m u
  pub shuts : (i : ℕ) (x : Lane) (seat : LanePass) (s : Shut) → i < many → slice_get lanes i ≡ Some x
      → x.seat ≡ Some seat
      → (view seat.pass).shut ≡ Some s → WasShut u
  pub clock : IsLater m.clock u.clock
  pub out_of : (l : ℕ) → Among l u.out → (many + 2 ≤ l) × (l < length lanes + 2)
  pub all_out : (l : ℕ) → many + 2 ≤ l → l < length lanes + 2 → Among l u.out
  pub none : many ≡ 0 → u ≡ m

-- the same of the first lane, and of the others
abbrev pub SaysFirstLane : Span → Lane → WholeFact
SaysFirstLane s x w = SaysLane w s (rows_of_lane w.log s.from s.to 1) x.works x.items

abbrev pub SaysOthers : Span → List Lane → WholeFact
SaysOthers s lanes w = EachLane (λ i x. SaysLane w s (rows_of_lane w.log s.from s.to (i + 2)) x.works x.items) lanes
