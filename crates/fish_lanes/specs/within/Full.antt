-- What lanes tell of a full log, and what they leave undone since it is.
use Rattle.std.specs.Prelude.{ℕ, ◌≡◌, ◌≢◌, ◌⊎◌, ◌<◌, List, [], None, drop, length, take}
use Rattle.fish_lanes.specs.Gains.{WasShut}
use Rattle.fish_lanes.specs.declared.lane.Lane.{Lane}
use Rattle.fish_lanes.specs.declared.work.LaneFault.{LaneFault}
use Rattle.fish_lanes.specs.declared.work.LaneFault.TheVariants as fault
use Rattle.fish_lanes.specs.declared.work.Work.{Work}
use Rattle.fish_report.specs.declared.item.Item.{Item}
use Rattle.fish_rule.specs.Views.{AllOf}
use Rattle.fish_rule.specs.declared.view.View.{View}
use Rattle.fish_lanes.specs.Full.{AreFullLast, EndsFull, IsNotFull}

-- the pass isn't shut, and no item tells that the log is full; or it is, and the last one alone does
abbrev pub HasMetFull : View → List Item → Type 0
HasMetFull u items = ((u.shut ≡ None) × AllOf IsNotFull items) ⊎ (WasShut u × EndsFull items)

-- none but the last item tells that the log is full; and without a fault that one does exactly where the pass is shut
pub record SaysLast (u : View) (items : List Item) (why : LaneFault) : Type 0 where
  pub full : AreFullLast items
  pub found : why ≡ fault.None → HasMetFull u items

-- the statements that are done, where so many have an item: these alone, or at a fault all
abbrev pub done_of : LaneFault → ℕ → List Work → List Work
done_of fault.None many works = take many works
done_of fault.Memory many works = works
done_of fault.Disk many works = works
done_of (fault.Damaged n) many works = works

-- a lane that had so many statements done, or stopped at a fault, is left with these, and hands back those: at a fault
-- it keeps all, and else those that are done, unless memory runs out
abbrev pub IsHandedBack : List Work → ℕ → LaneFault → List Work → List Work → LaneFault → Type 0
IsHandedBack works many why kept left last = ((why ≢ fault.None) × (last ≡ why) × (kept ≡ works) × (left ≡ []))
    ⊎ (((why ≡ fault.None) × (last ≡ fault.None) × (kept ≡ take many works) × (left ≡ drop many works))
    ⊎ ((why ≡ fault.None) × (last ≡ fault.Memory) × (kept ≡ works) × (left ≡ []) × (many < length works)))

-- the lane met no fault, and its pass is shut, as it wasn't before its statements
pub record IsLaneCut (v u : View) (x : Lane) : Type 0 where
  pub fault : x.fault ≡ fault.None
  pub unshut : v.shut ≡ None
  pub shut : WasShut u

-- what it leaves undone it does since it found the log full; and where its pass wasn't shut before its statements, none
-- but its last item tells that the log is full
pub record StopsFull (v u : View) (x : Lane) : Type 0 where
  pub cut : x.left ≢ [] → IsLaneCut v u x
  pub last : v.shut ≡ None → SaysLast u x.items x.fault
