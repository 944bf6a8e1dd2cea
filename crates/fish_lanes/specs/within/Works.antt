-- How the statements of a lane after the first are done, without its disk and with it.
use Rattle.std.specs.Prelude.{◌≡◌, ◌⊎◌, ◌≤◌, Bool, List, None, false, length}
use Rattle.fish_lanes.specs.Full.{IsNotFull}
use Rattle.fish_lanes.specs.within.Full.{HasMetFull, SaysLast}
use Rattle.fish_lanes.specs.Gains.{WasShut}
use Rattle.fish_lanes.specs.Spans.{IsAnswerItem}
use Rattle.fish_lanes.specs.declared.work.LaneFault.{LaneFault}
use Rattle.fish_lanes.specs.declared.work.LaneFault.TheVariants as fault
use Rattle.fish_lanes.specs.declared.work.Work.{Work}
use Rattle.fish_report.specs.declared.item.Item.{Item}
use Rattle.fish_rule.specs.Views.{AllOf}
use Rattle.fish_rule.specs.declared.view.View.{View}
use Rattle.fish_whole.specs.Whole.{Whole}
use Rattle.fish_lanes.specs.within.Advancing.{FinishesBy, GoesOnBy, IsShortFault}

-- a lane's statements were done without its disk: up to a fault, to the first scan of older records, or until its pass
-- found the log full, unless it was so before
pub record AdvancesWorks (v u : View) (works : List Work) (old new : List Item) (why : LaneFault) : Type 0 where
  pub goes : GoesOnBy v u works old new why
  pub answers : AllOf IsAnswerItem old → AllOf IsAnswerItem new
  pub last : v.shut ≡ None → AllOf IsNotFull old → SaysLast u new why
  pub short : IsShortFault why
  pub more : length old ≤ length new

-- those without an item were, after each such past: up to a fault, or until its pass found the log full, unless it was
-- so when the block began, as is told
pub record FinishesWorks (Past : Whole → Type 0) (full : Bool) (v u : View) (works : List Work) (old new : List Item)
    (why : LaneFault) : Type 0 where
  pub goes : FinishesBy Past v u works old new why
  pub answers : AllOf IsAnswerItem old → AllOf IsAnswerItem new
  pub all : why ≡ fault.None → (length works ≤ length new) ⊎ ((full ≡ false) × WasShut u)
  pub last : full ≡ false → HasMetFull v old → SaysLast u new why
