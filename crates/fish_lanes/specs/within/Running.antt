-- What a lane asks of its pass, and what it leaves.
use Rattle.std.specs.Prelude.{ℕ, ◌≡◌, ◌++◌, All, List, [], Some, ⊤}
use Rattle.fish_epoch.specs.Definitions.{IsDefsOf}
use Rattle.fish_epoch.specs.declared.definitions.Defs.{Defs}
use Rattle.fish_ingest.specs.Ingestion.{CanStart}
use Rattle.fish_lanes.specs.within.Full.{StopsFull}
use Rattle.fish_lanes.specs.within.Gains.{Gains, IsFullBy}
use Rattle.fish_lanes.specs.within.Plans.{AreReadBounds, PlansHoldFor}
use Rattle.fish_lanes.specs.Records.{LaneRow}
use Rattle.fish_lanes.specs.Registering.{KnowsRegistry, Registry}
use Rattle.fish_lanes.specs.within.Sizes.{SaysShut}
use Rattle.fish_lanes.specs.Spans.{IsAnswerItem, Span}
use Rattle.fish_lanes.specs.within.Spans.{IsWithinSpan}
use Rattle.fish_lanes.specs.Telling.{SaysLane}
use Rattle.fish_lanes.specs.declared.lane.Lane.{Lane}
use Rattle.fish_lanes.specs.declared.lane.LanePass.{LanePass}
use Rattle.fish_lanes.specs.declared.work.LaneFault.{LaneFault}
use Rattle.fish_lanes.specs.declared.work.LaneFault.TheVariants as cause
use Rattle.fish_lanes.specs.declared.work.Work.{Work}
use Rattle.fish_lanes.specs.declared.work.Work.TheVariants as work
use Rattle.fish_report.specs.declared.item.Item.{Item}
use Rattle.fish_report.specs.declared.item.Item.TheVariants as item
use Rattle.fish_rule.specs.Passes.{IsPassOf, view}
use Rattle.fish_rule.specs.Views.{AllOf}
use Rattle.fish_rule.specs.declared.table.Log.{Log}
use Rattle.fish_rule.specs.declared.table.Pass.{Pass}
use Rattle.fish_rule.specs.declared.view.View.{View}
use Rattle.fish_whole.specs.Whole.{Whole}
use Rattle.fish_whole.specs.within.Whole.{MustHoldUpTo}
use Rattle.fish_lanes.specs.Running.{IsEnded, IsShared}

-- an item that was refused since the log is full names the claim that shut the pass
abbrev pub IsFullItem : View → Item → Type 0
IsFullItem u x = (file : List ℕ) (line lines end stored refused : ℕ)
    → x ≡ item.IngestFull file line lines end stored refused
    → IsFullBy u line lines end

-- it changes no definition
abbrev pub IsFree : Work → Type 0
IsFree (work.Register name def) = ⊥
IsFree (work.Deregister name) = ⊥
IsFree w = ⊤

-- a pass, with the definitions that it has read
pub record HasDefs (log : Log) (pass : Pass) (defs : Defs) : Type 0 where
  pub of : IsPassOf log pass
  pub read : IsDefsOf (view pass) defs

-- what a pass left that did these statements; what their items tell is so, after each such past, of each whole whose
-- table goes up to the block's end
pub record HasRun (Past : Whole → Type 0) (v u : View) (works : List Work) (items : List Item) (fault : LaneFault)
    : Type 0 where
  pub rows : List LaneRow
  pub gains : Gains v u rows
  pub tells : (past : Whole) → Past past → (s : Span) → IsWithinSpan v u s → s.full ≡ v.shut
      → MustHoldUpTo past u s.to (λ w. SaysLane w s rows works items)
  pub full : AllOf (IsFullItem u) items
  pub ended : IsEnded works items fault
  pub shuts : fault ≡ cause.None → SaysShut v u items

-- what the items of statements that change no definition say of plans, where the pass had read these definitions before
abbrev pub SayPlans : View → View → List Work → List Item → Type 0
SayPlans v u works items = (r : Registry) → AreReadBounds v r.rows → KnowsRegistry v r → PlansHoldFor v u r works items

-- the pass is one of the log, live and out
pub record CanBegin (log : Log) (pass : Pass) : Type 0 where
  pub of : IsPassOf log pass
  pub start : CanStart (view pass)

-- the lane has a pass of the log, and may go on; it hands nothing back yet
pub record IsLaneReady (log : Log) (lane : Lane) : Type 0 where
  pub seat : LanePass
  pub seat_is : lane.seat ≡ Some seat
  pub can : CanBegin log seat.pass
  pub shared : All IsShared lane.works
  pub nothing_left : lane.left ≡ []

-- the lane did its statements
pub record HasDone (Past : Whole → Type 0) (log : Log) (old new : Lane) : Type 0 where
  pub before : LanePass
  pub before_is : old.seat ≡ Some before
  pub after : LanePass
  pub after_is : new.seat ≡ Some after
  pub can : CanBegin log after.pass
  pub run : HasRun Past (view before.pass) (view after.pass) new.works new.items new.fault
  pub plans : SayPlans (view before.pass) (view after.pass) new.works new.items
  pub stops : StopsFull (view before.pass) (view after.pass) new
  pub answers : AllOf IsAnswerItem new.items
  pub works : old.works ≡ new.works ++ new.left
  pub number : new.number ≡ old.number
