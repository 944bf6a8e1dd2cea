-- A store in its parts, while its lanes share the log: a store s over a disk, which are t and disk' afterwards.
use Rattle.std.specs.Prelude.{ℕ, ◌≡◌, ◌≢◌, ◌≤◌, ◌⊎◌, List, [], ◌∷◌, IfErr, IfOk, IsErrOf, None, Result, length}
use Rattle.fish_disk.specs.declared.disk.Disk.{Ghosts as Disks}
use Rattle.fish_lanes.specs.Blocks.{EachLane}
use Rattle.fish_lanes.specs.CommitRows.{LeavesRowsOf}
use Rattle.fish_lanes.specs.Controlling.{CanControl, IsCheckpointAtMost}
use Rattle.fish_lanes.specs.Gains.{WasShut}
use Rattle.fish_lanes.specs.Outcome.{Stops}
use Rattle.fish_lanes.specs.Registering.{registry_of}
use Rattle.fish_lanes.specs.Spans.{answers}
use Rattle.fish_lanes.specs.declared.lane.Lane.{Lane}
use Rattle.fish_lanes.specs.declared.work.LaneFault.{LaneFault}
use Rattle.fish_lanes.specs.declared.work.LaneFault.TheVariants as cause
use Rattle.fish_lanes.specs.declared.work.Work.{Work}
use Rattle.fish_lanes.specs.within.Blocks.{HasRunFirst}
use Rattle.fish_lanes.specs.within.CommitRows.{rows_by}
use Rattle.fish_lanes.specs.within.Controlled.{HasControlled, IsControlled, IsPartControlled}
use Rattle.fish_lanes.specs.within.Course.{HasRunLanes}
use Rattle.fish_lanes.specs.within.Full.{SaysLast, done_of}
use Rattle.fish_registry.specs.declared.registrar.Registrar.{Registrar}
use Rattle.fish_report.specs.declared.item.Item.{Item}
use Rattle.fish_rule.specs.Passes.{view}
use Rattle.fish_rule.specs.Views.{AllOf}
use Rattle.fish_rule.specs.declared.table.Log.{Log}
use Rattle.fish_rule.specs.declared.table.Pass.{Pass}
use Rattle.fish_rule.specs.declared.view.Key.{Key}
use Rattle.fish_scan.specs.Colder.{IsBelow}
use Rattle.fish_store.specs.CommitRows.{LeavesRows}
use Rattle.fish_store.specs.Points.{Behind, point_at}
use Rattle.fish_store.specs.Sound.{GoesOnHere, MayGoOn, ReadsPages}
use Rattle.fish_store.specs.declared.file.StoreFile.{StoreFile}
use Rattle.fish_store.specs.declared.store.Store.{Store}
use Rattle.fish_whole.specs.Whole.{Whole}

-- the store that has these parts
abbrev pub store_of : StoreFile → Log → Pass → Registrar → Store
store_of file log pass registrar = record { log = log; pass = pass; registrar = registrar; file = file }

-- the control pass may do statements, and a checkpoint may follow
pub record CanRunStore {D : Type 0} (images : D → List ℕ → Type 0) (disk : D) (s : Store) : Type 0 where
  pub can : CanControl s.log s.pass s.registrar
  pub commit : MayGoOn images (point_at disk s)
  pub below : IsBelow s.log.key s.file.cold

-- it still may, and a checkpoint may follow unless the disk is broken; at each moment in between, a crash left a part
-- of the log that has the last commit's entries
pub record StillRuns {D : Type 0} (disks : Disks D) (disk : D) (s : Store) (disk' : D) (t : Store) (Broken : Type 0)
    : Type 0 where
  pub can : CanControl t.log t.pass t.registrar
  pub below : IsBelow t.log.key t.file.cold
  pub goes : GoesOnHere disks (point_at disk s) (point_at disk' t)
  pub again : (Broken → ⊥) → MayGoOn disks.images (point_at disk' t)

-- the file was only read, page by page: what is kept of the last commit stays
pub record OnlyReadsFile {D : Type 0} (disks : Disks D) (k : Key) (disk : D) (file : StoreFile) (disk' : D)
    (file' : StoreFile) : Type 0 where
  pub below : IsBelow k file'.cold
  pub flusher : file'.flusher ≡ file.flusher
  pub pages : ReadsPages disks k file.cold file'.cold disk disk'

-- a lane stops at this fault, which it names
abbrev pub StopsBy : (Whole → Type 0) → ℕ → ℕ → LaneFault → Type 0
StopsBy Past before now fault = (fault ≢ cause.None) × Stops Past before now fault

-- a statement was done over it, or a part: its item, or the fault at which the lane stops
pub record RunsStatement {D : Type 0} (disks : Disks D) (disk : D) (s : Store) (disk' : D) (t : Store) (w : Work)
    (result : Result Item LaneFault) : Type 0 where
  pub still : StillRuns disks disk s disk' t (IsErrOf result cause.Disk)
  pub done : IfOk result
      (IsControlled (Behind disks disk s disk') (view s.pass) s.registrar (view t.pass) t.registrar w)
  pub committed : IfOk result (IsCheckpointAtMost t.file.flusher.count)
  pub rows : LeavesRows disks disk disk' (rows_by result s.registrar.catalog) (s.registrar.catalog ∷ [])
  pub part : IfErr result (λ _. IsPartControlled (view s.pass) (view t.pass) w)
  pub later : disks.faults disk ≤ disks.faults disk'
  pub stops : IfErr result (StopsBy (Behind disks disk s disk') (disks.faults disk) (disks.faults disk'))

-- statements were, up to a fault, or until the pass has found the log full, unless it was so before
pub record RunsWorks {D : Type 0} (disks : Disks D) (disk : D) (s : Store) (disk' : D) (t : Store) (works : List Work)
    (items : List Item) (fault : LaneFault) : Type 0 where
  pub still : StillRuns disks disk s disk' t (fault ≡ cause.Disk)
  pub run : HasControlled (Behind disks disk s disk') (view s.pass) (view t.pass) s.registrar t.registrar
      (done_of fault (length (answers items)) works) items fault
  pub all : fault ≡ cause.None → (length works ≤ length (answers items))
      ⊎ (((view s.pass).shut ≡ None) × WasShut (view t.pass))
  pub last : (view s.pass).shut ≡ None → SaysLast (view t.pass) items fault
  pub committed : AllOf (IsCheckpointAtMost t.file.flusher.count) items
  pub rows : LeavesRowsOf disks disk disk' (registry_of (view s.pass) s.registrar) items
  pub stops : Stops (Behind disks disk s disk') (disks.faults disk) (disks.faults disk') fault

-- it did the statements of the first lane, which was x and is y
pub record RunsFirst {D : Type 0} (disks : Disks D) (disk : D) (s : Store) (x : Lane) (disk' : D) (t : Store) (y : Lane)
    : Type 0 where
  pub still : StillRuns disks disk s disk' t (y.fault ≡ cause.Disk)
  pub run : HasRunFirst (Behind disks disk s disk') (view s.pass) (view t.pass) s.registrar t.registrar x y
  pub stops : Stops (Behind disks disk s disk') (disks.faults disk) (disks.faults disk') y.fault
  pub committed : AllOf (IsCheckpointAtMost t.file.flusher.count) y.items
  pub rows : LeavesRowsOf disks disk disk' (registry_of (view s.pass) s.registrar) y.items

-- so it did those, and the other lanes, which are after where they were before, did theirs
pub record RunsLanes {D : Type 0} (disks : Disks D) (disk : D) (s : Store) (x : Lane) (before : List Lane)
    (disk' : D) (t : Store) (y : Lane) (after : List Lane) : Type 0 where
  pub still : StillRuns disks disk s disk' t (y.fault ≡ cause.Disk)
  pub course : HasRunLanes (Behind disks disk s disk') s.log (view s.pass) (view t.pass) s.registrar t.registrar x y
      before after
  pub stops : EachLane (λ i z. Stops (Behind disks disk s disk') (disks.faults disk) (disks.faults disk') z.fault)
      (y ∷ after)
  pub committed : AllOf (IsCheckpointAtMost t.file.flusher.count) y.items
  pub rows : LeavesRowsOf disks disk disk' (registry_of (view s.pass) s.registrar) y.items
