-- Why a run stops.
use Rattle.std.specs.Prelude.{ℕ, ◌≡◌, ◌<◌, List, ⊤, Option, None, Some, IsSome, slice_get}
use Rattle.fish_flush.specs.declared.refusal.FlushRefusal.{FlushRefusal}
use Rattle.fish_flush.specs.declared.refusal.FlushRefusal.TheVariants as flush
use Rattle.fish_lanes.specs.declared.lane.Lane.{Lane}
use Rattle.fish_lanes.specs.declared.work.LaneFault.{LaneFault}
use Rattle.fish_lanes.specs.declared.work.LaneFault.TheVariants as cause
use Rattle.fish_outside.specs.Causes.{Rose}
use Rattle.fish_outside.specs.declared.fault.FeedRefusal.{FeedRefusal}
use Rattle.fish_outside.specs.declared.fault.FeedRefusal.TheVariants as feed
use Rattle.fish_report.specs.declared.writing.WriteRefusal.{WriteRefusal}
use Rattle.fish_report.specs.declared.writing.WriteRefusal.TheVariants as write
use Rattle.fish_run.specs.declared.fault.RunFault.{RunFault}
use Rattle.fish_run.specs.declared.fault.RunFault.TheVariants as fault

-- a file that couldn't be read
abbrev pub feed_fault : FeedRefusal → RunFault
feed_fault feed.Failed = fault.Input
feed_fault feed.OutOfMemory = fault.Memory

-- an item that couldn't be written
abbrev pub write_fault : WriteRefusal → RunFault
write_fault write.Failed = fault.Output
write_fault write.OutOfMemory = fault.Memory

-- a log that couldn't be committed
abbrev pub flush_fault : FlushRefusal → RunFault
flush_fault flush.DiskFault = fault.Disk
flush_fault flush.OutOfMemory = fault.Memory

-- a lane that stopped, if it did
abbrev pub lane_fault : LaneFault → Option RunFault
lane_fault cause.None = None
lane_fault cause.Memory = Some fault.Memory
lane_fault cause.Disk = Some fault.Disk
lane_fault (cause.Damaged number) = Some (fault.Damaged number)

-- no record was damaged
abbrev pub IsRunUndamaged : RunFault → Type 0
IsRunUndamaged (fault.Damaged number) = ⊥
IsRunUndamaged fault.Input = ⊤
IsRunUndamaged fault.Output = ⊤
IsRunUndamaged fault.Memory = ⊤
IsRunUndamaged fault.Disk = ⊤

-- ---- causes

-- how many faults a host, an output and a disk had
pub record FaultCounts : Type 0 where
  pub host : ℕ
  pub out : ℕ
  pub disk : ℕ

abbrev pub counts_of : {H W D : Type 0} → (H → ℕ) → (W → ℕ) → (D → ℕ) → H → W → D → FaultCounts
counts_of host out disk h w d = record { host = host h; out = out w; disk = disk d }

-- where one of them is why the run stopped, its count rose
pub record IsCausedBy (a b : FaultCounts) (why : RunFault) : Type 0 where
  pub input : why ≡ fault.Input → Rose a.host b.host
  pub output : why ≡ fault.Output → Rose a.out b.out
  pub disk : why ≡ fault.Disk → Rose a.disk b.disk

-- and where the disk's content is told in the end, no record was damaged
pub record HasRunCause (content : Option (List ℕ)) (a b : FaultCounts) (why : RunFault) : Type 0 where
  pub caused : IsCausedBy a b why
  pub whole : IsSome content → IsRunUndamaged why

-- ---- lanes

-- why the first of these lanes stopped that stopped at a fault
pub record IsFirstFault (lanes : List Lane) (why : RunFault) : Type 0 where
  pub at : ℕ
  pub lane : Lane
  pub lane_is : slice_get lanes at ≡ Some lane
  pub is : lane_fault lane.fault ≡ Some why
  pub before : (i : ℕ) (x : Lane) → i < at → slice_get lanes i ≡ Some x → x.fault ≡ cause.None
