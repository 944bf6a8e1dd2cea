-- What a lane asks of its pass, and what it leaves.
use Rattle.std.specs.Prelude.{◌≡◌, ◌≢◌, ◌<◌, List, length, ⊤}
use Rattle.fish_lanes.specs.Spans.{answers}
use Rattle.fish_lanes.specs.declared.work.LaneFault.{LaneFault}
use Rattle.fish_lanes.specs.declared.work.LaneFault.TheVariants as cause
use Rattle.fish_lanes.specs.declared.work.Work.{Work}
use Rattle.fish_lanes.specs.declared.work.Work.TheVariants as work
use Rattle.fish_report.specs.declared.item.Item.{Item}

-- a statement has no item that answers it exactly where there is a fault
pub record IsEnded (works : List Work) (items : List Item) (fault : LaneFault) : Type 0 where
  pub whole : fault ≡ cause.None → length (answers items) ≡ length works
  pub cut : fault ≢ cause.None → length (answers items) < length works

-- any lane may do it: it changes no definition and commits nothing
abbrev pub IsShared : Work → Type 0
IsShared (work.Register name def) = ⊥
IsShared (work.Deregister name) = ⊥
IsShared work.Checkpoint = ⊥
IsShared w = ⊤
