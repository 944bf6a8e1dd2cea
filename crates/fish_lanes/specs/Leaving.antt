-- What a block leaves: the store, its lanes, and what their items say. It was run from a store s over a disk, and a
-- store t and a disk' are there after it; Past is so of what stands before the table.
use Rattle.std.specs.Prelude.{ℕ, ◌≡◌, ◌≤◌, List, Some, length, slice_get}
use Rattle.fish_disk.specs.declared.disk.Disk.{Ghosts as Disks}
use Rattle.fish_lanes.specs.Blocks.{EachLane, AreEnded, AreKept, HasRegistered, IsBlockSpan, NameMarks, SaysBlock}
use Rattle.fish_lanes.specs.CommitRows.{LeavesRowsOf}
use Rattle.fish_lanes.specs.Controlling.{CanControl, IsCheckpointAtMost}
use Rattle.fish_lanes.specs.Ending.{EndsAlone}
use Rattle.fish_lanes.specs.Gains.{WasShut}
use Rattle.fish_lanes.specs.Outcome.{AreVacant, HandsBack, LanesSayPlans, LeaveNone, Stops, SayFullLast}
use Rattle.fish_lanes.specs.Outcome.{SaysAlone, SaysShutBy}
use Rattle.fish_lanes.specs.Plans.{KnowsListed}
use Rattle.fish_lanes.specs.Registering.{registry_of}
use Rattle.fish_lanes.specs.Spans.{Span}
use Rattle.fish_lanes.specs.declared.block.BlockEnd.{BlockEnd}
use Rattle.fish_lanes.specs.declared.lane.Lane.{Lane}
use Rattle.fish_lanes.specs.declared.work.LaneFault.TheVariants as cause
use Rattle.fish_registry.specs.declared.registrar.Registrar.{Registrar}
use Rattle.fish_rule.specs.Passes.{view}
use Rattle.fish_rule.specs.Views.{AllOf}
use Rattle.fish_rule.specs.declared.view.View.{View}
use Rattle.fish_scan.specs.Colder.{IsBelow}
use Rattle.fish_store.specs.Points.{point_at}
use Rattle.fish_store.specs.Sound.{GoesOnHere, MayGoOn}
use Rattle.fish_store.specs.declared.store.Store.{Store}
use Rattle.fish_whole.specs.Whole.{Later, Whole, WillHold}

-- its log is the same one, and ends where the block does; at each moment since, a crash left a part of it that has the
-- last commit's entries, and the definitions of a moment between two items of the first lane; a checkpoint may follow,
-- unless that lane met a fault of the disk; and what it tells as committed was
pub record LeavesStore {D : Type 0} (disks : Disks D) (disk : D) (s : Store) (disk' : D) (t : Store) (lanes : List Lane)
    (end : BlockEnd) : Type 0 where
  pub log : t.log ≡ s.log
  pub can : CanControl t.log t.pass t.registrar
  pub below : IsBelow t.log.key t.file.cold
  pub goes : GoesOnHere disks (point_at disk s) (point_at disk' t)
  pub again : ((x : Lane) → slice_get lanes 0 ≡ Some x → x.fault ≡ cause.Disk → ⊥)
      → MayGoOn disks.images (point_at disk' t)
  pub ends : EndsAlone (view t.pass) end.to
  pub later : Later (view s.pass) (view t.pass)
  pub committed : (x : Lane) → slice_get lanes 0 ≡ Some x → AllOf (IsCheckpointAtMost t.file.flusher.count) x.items
  pub rows : (x : Lane) → slice_get lanes 0 ≡ Some x
      → LeavesRowsOf disks disk disk' (registry_of (view s.pass) s.registrar) x.items

-- each lane has an item for each statement that it keeps, or a fault with its cause and fewer; what it handed back it
-- hasn't begun, and that only where the log was found full in the block, which its last item says; no seat is lost
pub record LeavesLanes (Past : Whole → Type 0) (low high : ℕ) (v u : View) (old new : List Lane) : Type 0 where
  pub kept : AreKept old new
  pub vacant : AreVacant old → AreVacant new
  pub ended : AreEnded new
  pub stops : EachLane (λ i x. Stops Past low high x.fault) new
  pub left : HandsBack v u new
  pub last : SayFullLast v new
  pub goes_on : WasShut v → LeaveNone new
  pub shuts : SaysShutBy v u new
  pub marks : NameMarks u new

-- the items of lanes are true of each whole that the control pass may leave later; the definitions are those of which
-- the first lane tells; a lane alone tells of all; plans have the rows that lanes know
pub record ItemsHold
    (Past : Whole → Type 0) (v u : View) (r t : Registrar) (old new : List Lane) (end : BlockEnd) : Type 0 where
  pub sound : (past : Whole) → Past past → (s : Span) → IsBlockSpan v u end.to s → s.lanes ≡ length old
      → (s.from ≤ s.to) × WillHold past u (λ w. SaysBlock w s new)
  pub registered : (x : Lane) → slice_get new 0 ≡ Some x → HasRegistered v u r t x end
  pub alone : SaysAlone Past v u r new
  pub plans : (from : ℕ) → EndsAlone v from
      → LanesSayPlans (KnowsListed u) (registry_of v r) t.catalog from new
