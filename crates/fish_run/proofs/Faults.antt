-- Why a run stops, case by case.
use Rattle.std.proofs.Common.{◌≡◌, ◌≢◌, ℕ, List, Some, refl, sym, ap, ◌∙◌, subst}
use Rattle.fish_flush.specs.declared.refusal.FlushRefusal.{FlushRefusal}
use Rattle.fish_flush.specs.declared.refusal.FlushRefusal.TheVariants as flush
use Rattle.fish_lanes.specs.Blocks.{EachLane}
use Rattle.fish_lanes.specs.Causes.{HasFaultCause, IsUndamaged as IsWell}
use Rattle.fish_lanes.specs.Outcome.{Stops}
use Rattle.fish_lanes.specs.declared.lane.Lane.{Lane}
use Rattle.fish_lanes.specs.declared.work.LaneFault.{LaneFault}
use Rattle.fish_lanes.specs.declared.work.LaneFault.TheVariants as cause
use Rattle.fish_outside.specs.Causes.{Rose}
use Rattle.fish_outside.specs.declared.fault.FeedRefusal.{FeedRefusal}
use Rattle.fish_outside.specs.declared.fault.FeedRefusal.TheVariants as feed
use Rattle.fish_report.specs.declared.writing.WriteRefusal.{WriteRefusal}
use Rattle.fish_report.specs.declared.writing.WriteRefusal.TheVariants as write
use Rattle.fish_run.specs.Faults.{IsFirstFault, IsRunUndamaged, feed_fault, flush_fault}
use Rattle.fish_run.specs.within.Faults.{IsCommitFault, IsWriteFault}
use Rattle.fish_run.specs.Faults.{lane_fault, write_fault}
use Rattle.fish_run.specs.declared.fault.RunFault.{RunFault}
use Rattle.fish_run.specs.declared.fault.RunFault.TheVariants as fault
use Rattle.fish_whole.specs.Whole.{Whole}

-- one of items is of the output or of memory
pub write_loud : (why : RunFault) → IsWriteFault why → why ≢ fault.Output → why ≢ fault.Memory → ⊥
write_loud why (write.Failed, is) output memory = output is
write_loud why (write.OutOfMemory, is) output memory = memory is

-- that of a lane or of a checkpoint is none of the input
pub flush_other : (r : FlushRefusal) → flush_fault r ≢ fault.Input
flush_other flush.DiskFault is = absurd cc
flush_other flush.OutOfMemory is = absurd cc

pub lane_other : (f : LaneFault) → lane_fault f ≢ Some fault.Input
lane_other cause.None is = absurd cc
lane_other cause.Memory is = absurd cc
lane_other cause.Disk is = absurd cc
lane_other (cause.Damaged n) is = absurd cc

-- nor of a lane or of a checkpoint one of the output
pub flush_no_output : (r : FlushRefusal) → flush_fault r ≢ fault.Output
flush_no_output flush.DiskFault is = absurd cc
flush_no_output flush.OutOfMemory is = absurd cc

pub lane_no_output : (f : LaneFault) → lane_fault f ≢ Some fault.Output
lane_no_output cause.None is = absurd cc
lane_no_output cause.Memory is = absurd cc
lane_no_output cause.Disk is = absurd cc
lane_no_output (cause.Damaged n) is = absurd cc

-- nor of a file or of the output one of the disk
pub feed_no_disk : (r : FeedRefusal) → feed_fault r ≢ fault.Disk
feed_no_disk feed.Failed is = absurd cc
feed_no_disk feed.OutOfMemory is = absurd cc

-- it is never one of the output or of the disk, and one of the input only where a read failed
pub feed_no_output : (r : FeedRefusal) → feed_fault r ≢ fault.Output
feed_no_output feed.Failed is = absurd cc
feed_no_output feed.OutOfMemory is = absurd cc

pub feed_failed : (r : FeedRefusal) → feed_fault r ≡ fault.Input → r ≡ feed.Failed
feed_failed feed.Failed is = refl
feed_failed feed.OutOfMemory is = absurd cc

-- only a lane finds damage
pub feed_well : (r : FeedRefusal) → IsRunUndamaged (feed_fault r)
feed_well feed.Failed = tt
feed_well feed.OutOfMemory = tt

pub write_well : (r : WriteRefusal) → IsRunUndamaged (write_fault r)
write_well write.Failed = tt
write_well write.OutOfMemory = tt

pub flush_well : (r : FlushRefusal) → IsRunUndamaged (flush_fault r)
flush_well flush.DiskFault = tt
flush_well flush.OutOfMemory = tt

pub lane_well : (f : LaneFault) (why : RunFault) → lane_fault f ≡ Some why → IsWell f → IsRunUndamaged why
lane_well cause.None why is h = absurd cc
lane_well cause.Memory why is h = subst IsRunUndamaged (let e : fault.Memory ≡ why = cc in e) tt
lane_well cause.Disk why is h = subst IsRunUndamaged (let e : fault.Disk ≡ why = cc in e) tt
lane_well (cause.Damaged n) why is h = elim h [ ]

-- a lane that stopped at the disk has that cause
pub lane_disk : (before now : ℕ) (f : LaneFault) → lane_fault f ≡ Some fault.Disk → HasFaultCause before now f → Rose before now
lane_disk before now cause.None is h = absurd cc
lane_disk before now cause.Memory is h = absurd cc
lane_disk before now cause.Disk is h = h
lane_disk before now (cause.Damaged n) is h = absurd cc

-- ---- the first lane that stopped

-- it is none of the input
pub first_no_input : (lanes : List Lane) (why : RunFault) → IsFirstFault lanes why → why ≢ fault.Input
first_no_input lanes why h is = lane_other h.lane.fault (h.is ∙ ap Some is)

-- that of a lane is the disk's only where its count rose, and no damage after a past that it has whole
pub lane_rose : (Past : Whole → Type 0) (before now : ℕ) (lanes : List Lane) (why : RunFault)
    → EachLane (λ i x. Stops Past before now x.fault) lanes → IsFirstFault lanes why → why ≡ fault.Disk → Rose before now
lane_rose Past before now lanes why stops h is =
    lane_disk before now h.lane.fault (h.is ∙ ap Some is) (stops h.at h.lane h.lane_is).cause

pub lane_whole : (Past : Whole → Type 0) (before now : ℕ) (lanes : List Lane) (why : RunFault)
    → EachLane (λ i x. Stops Past before now x.fault) lanes → IsFirstFault lanes why → (past : Whole) → Past past → IsRunUndamaged why
lane_whole Past before now lanes why stops h past p =
    lane_well h.lane.fault why h.is ((stops h.at h.lane h.lane_is).whole past p)

pub first_no_output : (lanes : List Lane) (why : RunFault) → IsFirstFault lanes why → why ≢ fault.Output
first_no_output lanes why h is = lane_no_output h.lane.fault (h.is ∙ ap Some is)

-- ---- the last checkpoint

pub commit_other : (why : RunFault) → IsCommitFault why → why ≢ fault.Input
commit_other why h is = flush_other h.0 (sym h.1 ∙ is)

pub commit_no_output : (why : RunFault) → IsCommitFault why → why ≢ fault.Output
commit_no_output why h is = flush_no_output h.0 (sym h.1 ∙ is)

pub commit_well : (why : RunFault) → IsCommitFault why → IsRunUndamaged why
commit_well why h = subst IsRunUndamaged (sym h.1) (flush_well h.0)

-- ---- the end

-- a fault that names no number is no damage
pub well_of : (why : RunFault) → ((n : ℕ) → why ≢ fault.Damaged n) → IsRunUndamaged why
well_of fault.Input h = tt
well_of fault.Output h = tt
well_of fault.Memory h = tt
well_of fault.Disk h = tt
well_of (fault.Damaged n) h = h n refl
