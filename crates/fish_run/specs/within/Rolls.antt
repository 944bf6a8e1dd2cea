-- What a run leaves as it begins a new table. Private clauses speak of it.
use Rattle.std.specs.Prelude.{ℕ, ◌≡◌, ◌++◌, [], ◌∷◌, true, IfSome, None, ⊤}
use Rattle.fish_disk.specs.declared.disk.Disk.{Ghosts as Disks}
use Rattle.fish_lanes.specs.Ending.{EndsAlone}
use Rattle.fish_lanes.specs.Registering.{registry_of}
use Rattle.fish_rule.specs.Logs.{Learns}
use Rattle.fish_rule.specs.Passes.{view}
use Rattle.fish_run.specs.Blocks.{begun_anew}
use Rattle.fish_run.specs.within.Faults.{IsCommitFault}
use Rattle.fish_run.specs.within.Runs.{CanClose, CanGoOn}
use Rattle.fish_run.specs.declared.fault.RunFault.TheVariants as fault
use Rattle.fish_run.specs.declared.lasting.Stopped.{Stopped}
use Rattle.fish_store.specs.CommitRows.{LeavesRows}
use Rattle.fish_store.specs.Points.{point_at}
use Rattle.fish_store.specs.Sound.{Point, StoreRuns}
use Rattle.fish_store.specs.declared.store.Store.{Store}

-- the log of so many entries was committed, and a new table begins after it, which isn't full; the definitions are
-- those of before, and no index begins or ends past the log
pub record RollsOn {D : Type 0} (disks : Disks D) (disk : D) (s : Store) (from : ℕ) (disk' : D) (t : Store)
    : Type 0 where
  pub runs : StoreRuns disks (point_at disk s) (point_at disk' t) (λ w. ⊤)
  pub go : CanGoOn disks.images disk' t from
  pub unshut : (view t.pass).shut ≡ None
  pub registry : registry_of (view t.pass) t.registrar ≡ begun_anew true from (registry_of (view s.pass) s.registrar)
  pub number : t.log.key.number ≡ from
  pub rows : LeavesRows disks disk disk' (λ was. s.registrar.catalog ∷ []) (s.registrar.catalog ∷ [])
  pub shape : t.log.shape ≡ s.log.shape

-- the commit failed, and the table stays as it is; or memory ran out for the new one
pub record StopsRoll {D : Type 0} (disks : Disks D) (disk : D) (s : Store) (from : ℕ) (disk' : D) (e : Stopped)
    : Type 0 where
  pub at : Point D
  pub disk_is : at.disk ≡ disk'
  pub store : IfSome e.store (λ x. (at ≡ point_at disk' x) × CanClose x)
  pub lost : e.store ≡ None → e.why ≡ fault.Memory
  pub named : IsCommitFault e.why
  pub runs : StoreRuns disks (point_at disk s) at (λ w. ⊤)
  pub rows : LeavesRows disks disk disk' (λ was. was ++ s.registrar.catalog ∷ []) (s.registrar.catalog ∷ [])
  pub end : EndsAlone at.view from
  pub learns : Learns (view s.pass) at.view
  pub shut : at.view.shut ≡ (view s.pass).shut
  pub shape : at.shape ≡ s.log.shape
