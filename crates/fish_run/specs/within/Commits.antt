-- What a commit of all of the log leaves, whether it succeeds or not.
use Rattle.std.specs.Prelude.{ℕ, ◌≡◌, ◌≤◌, [], ◌∷◌, Result}
use Rattle.fish_disk.specs.declared.disk.Disk.{Ghosts as Disks}
use Rattle.fish_flush.specs.Carrying.{ReadsLog}
use Rattle.fish_lanes.specs.Ending.{EndsAlone}
use Rattle.fish_rule.specs.Passes.{view}
use Rattle.fish_run.specs.declared.fault.RunFault.{RunFault}
use Rattle.fish_run.specs.within.Runs.{CanClose}
use Rattle.fish_store.specs.CommitRows.{LeavesRows, by_checkpoint}
use Rattle.fish_store.specs.Points.{point_at}
use Rattle.fish_store.specs.Sound.{GoesOnHere}
use Rattle.fish_store.specs.declared.store.Store.{Store}
use Rattle.fish_whole.specs.Whole.{Later}

-- the store s over a disk is t and disk' afterwards: its log and its registrar stay, and the control pass only reads
pub record Commits {D : Type 0} (disks : Disks D) (disk : D) (s : Store) (disk' : D) (t : Store)
    (result : Result (Unit {0}) RunFault) : Type 0 where
  pub log : t.log ≡ s.log
  pub registrar : t.registrar ≡ s.registrar
  pub close : CanClose t
  pub later : Later (view s.pass) (view t.pass)
  pub reads : ReadsLog (view s.pass) (view t.pass)
  pub goes : GoesOnHere disks (point_at disk s) (point_at disk' t)
  pub end : (to : ℕ) → EndsAlone (view s.pass) to → EndsAlone (view t.pass) to
  pub rows : LeavesRows disks disk disk' (by_checkpoint result s.registrar.catalog) (s.registrar.catalog ∷ [])
  pub rises : disks.faults disk ≤ disks.faults disk'
