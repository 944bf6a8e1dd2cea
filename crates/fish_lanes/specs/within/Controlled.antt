-- What the control pass leaves that did statements: one, a part of one, or several.
use Rattle.std.specs.Prelude.{ℕ, ◌≡◌, List, [], ◌∷◌, None, take}
use Rattle.fish_lanes.specs.within.Doing.{IsFit}
use Rattle.fish_lanes.specs.Ending.{EndsAlone}
use Rattle.fish_lanes.specs.within.Gains.{Gains}
use Rattle.fish_lanes.specs.Pending.{AreFound}
use Rattle.fish_lanes.specs.within.Plans.{PlansHoldFor}
use Rattle.fish_lanes.specs.Records.{LaneRow, contents_of_rows}
use Rattle.fish_lanes.specs.Registering.{ItemsFit, KnowsEach, after_all}
use Rattle.fish_lanes.specs.Registering.{registry_of}
use Rattle.fish_lanes.specs.within.Running.{HasRun}
use Rattle.fish_lanes.specs.Single.{NamesNone, SaysOnly}
use Rattle.fish_lanes.specs.within.Sizes.{SaysShut}
use Rattle.fish_lanes.specs.Telling.{content_of, count_of}
use Rattle.fish_lanes.specs.declared.work.LaneFault.{LaneFault}
use Rattle.fish_lanes.specs.declared.work.LaneFault.TheVariants as cause
use Rattle.fish_lanes.specs.declared.work.Work.{Work}
use Rattle.fish_registry.specs.declared.registrar.Registrar.{Registrar}
use Rattle.fish_report.specs.declared.item.Item.{Item}
use Rattle.fish_rule.specs.LoadSteps.{IsAlone}
use Rattle.fish_rule.specs.Views.{AllOf}
use Rattle.fish_rule.specs.declared.view.View.{View}
use Rattle.fish_whole.specs.Whole.{Whole}
use Rattle.fish_lanes.specs.within.Controlling.{TellsStep}

-- one statement was done
pub record IsControlled (Past : Whole → Type 0) (u : View) (r : Registrar) (t : View) (s : Registrar) (w : Work)
    (x : Item) : Type 0 where
  pub rows : List LaneRow
  pub gains : Gains u t rows
  pub first : contents_of_rows rows ≡ take (count_of x) (content_of w)
  pub fit : IsFit Past u t w x
  pub shuts : SaysShut u t (x ∷ [])
  pub tells : TellsStep u r t s x

-- a part of it was
pub record IsPartControlled (u t : View) (w : Work) : Type 0 where
  pub rows : List LaneRow
  pub count : ℕ
  pub gains : Gains u t rows
  pub first : contents_of_rows rows ≡ take count (content_of w)

-- what the statements of the first lane leave: their items, which are so of the definitions where they stand, what
-- those of pending registrations have after them, and what one that is alone tells besides; and, unless there was a
-- fault, the registry after them
pub record HasControlled (Past : Whole → Type 0) (v u : View) (r s : Registrar) (works : List Work) (items : List Item)
    (fault : LaneFault) : Type 0 where
  pub run : HasRun Past v u works items fault
  pub so : ItemsFit v.learned.count u.learned.count (registry_of v r) items
  pub closed : IsAlone v → AllOf NamesNone items
  pub only : (end : ℕ) → EndsAlone v end → r.waiting ≡ None → SaysOnly Past v u r.catalog end works items
  pub plans : PlansHoldFor v u (registry_of v r) works items
  pub is : fault ≡ cause.None → registry_of u s ≡ after_all (registry_of v r) items
  pub each : KnowsEach u (registry_of v r) items
  pub found : AreFound v.clock u.clock (registry_of v r) items
