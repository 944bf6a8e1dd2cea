-- How the control pass goes on over one statement: on definitions, a checkpoint, or any other one.
use Rattle.std.proofs.Common.{◌≡◌, ℕ, [], ◌∷◌, Result, Ok, Err, refl, sym, subst, arith}
use Rattle.std.specs.Prelude.{IfErr, IfOk, IsErrOf}
use Rattle.fish_disk.specs.declared.disk.Disk.{Ghosts as Disks}
use Rattle.fish_flush.specs.Carrying.{HasSettled, ReadsLog}
use Rattle.fish_flush.specs.Causes.{HasFlushCause}
use Rattle.fish_flush.specs.declared.refusal.FlushRefusal.{FlushRefusal}
use Rattle.fish_flush.specs.declared.refusal.FlushRefusal.TheVariants as flush
use Rattle.fish_ingest.proofs.IngestionStart.{idle_law}
use Rattle.fish_lanes.proofs.Behind.{sound_now}
use Rattle.fish_lanes.proofs.CommitRows.{rows_other, rows_same}
use Rattle.fish_lanes.proofs.Committing.{commit_fits, commit_item, commit_part, other_committed, reads_control}
use Rattle.fish_lanes.proofs.Controls.{control_done, control_part, free_done, free_part, gained_any}
use Rattle.fish_lanes.proofs.Doings.{err_then, ok_then}
use Rattle.fish_lanes.proofs.Faults.{memory_ok, memory_part, memory_stops, or_memory_stops}
use Rattle.fish_lanes.proofs.Gaining.{gains_start}
use Rattle.fish_lanes.proofs.Registrations.{knows_kept, registry_same}
use Rattle.fish_lanes.proofs.SoFar.{fit_fewer, items_anywhere, items_fewer, shared_free}
use Rattle.fish_lanes.proofs.Stepping.{rows_self, stays_pass}
use Rattle.fish_lanes.specs.Controlling.{IsCheckpointAtMost}
use Rattle.fish_lanes.specs.Running.{IsShared}
use Rattle.fish_lanes.specs.Telling.{content_of}
use Rattle.fish_lanes.specs.declared.work.LaneFault.{LaneFault}
use Rattle.fish_lanes.specs.declared.work.LaneFault.TheVariants as cause
use Rattle.fish_lanes.specs.declared.work.Work.{Work}
use Rattle.fish_lanes.specs.declared.work.Work.TheVariants as work
use Rattle.fish_lanes.specs.within.Causes.{or_memory}
use Rattle.fish_lanes.specs.within.CommitRows.{rows_by}
use Rattle.fish_lanes.specs.within.Controlled.{IsControlled, IsPartControlled}
use Rattle.fish_lanes.specs.within.Controlling.{Controls, TellsStep}
use Rattle.fish_lanes.specs.within.Doing.{FitsCheckpoint, IsFit, IsItem, IsPart}
use Rattle.fish_lanes.specs.within.Parts.{CanRunStore, OnlyReadsFile, RunsStatement, StopsBy, store_of}
use Rattle.fish_lanes.specs.within.Pasts.{IsHere, anywhere}
use Rattle.fish_registry.specs.Knowing.{Knows}
use Rattle.fish_registry.specs.declared.registrar.Registrar.{Registrar}
use Rattle.fish_report.specs.declared.item.Item.{Item}
use Rattle.fish_report.specs.declared.item.Item.TheVariants as item
use Rattle.fish_rule.specs.Passes.{IsPassOf, view}
use Rattle.fish_rule.specs.declared.table.Pass.{Pass}
use Rattle.fish_rule.specs.declared.view.Key.{Key}
use Rattle.fish_scan.specs.Colder.{IsBelow}
use Rattle.fish_store.proofs.CommitRows.{rows_kept}
use Rattle.fish_store.proofs.Running.{here_stays, may_stays, told_still}
use Rattle.fish_store.proofs.Scanning.{pages_stay}
use Rattle.fish_store.specs.CommitRows.{LeavesRows, by_checkpoint}
use Rattle.fish_store.specs.Ending.{IsCommitOf}
use Rattle.fish_store.specs.Points.{Behind, point_at}
use Rattle.fish_store.specs.Sound.{GoesOnHere, MayGoOn, ReadsPages, StoreStays}
use Rattle.fish_store.specs.declared.file.StoreFile.{StoreFile}
use Rattle.fish_store.specs.declared.store.Store.{Store}
use Rattle.fish_whole.specs.Whole.{Whole}

module _ {D : Type 0} (disks : Disks D) (disk : D) (s : Store) (run : CanRunStore disks.images disk s) where
  -- ---- on definitions

  -- a step that leaves the disk: it has its item, or memory ran out for it
  module _ (q : Pass) (k : Registrar) (w : Work) {E : Type 0} (r : Result Item E) (none : content_of w ≡ [])
      (other : w ≡ work.Checkpoint → ⊥) (on : Controls s.log s.pass s.registrar q k)
      (item : IfOk r (IsFit anywhere (view s.pass) (view q) w))
      (tells : IfOk r (TellsStep (view s.pass) s.registrar (view q) k)) where
    -- the store after it
    abbrev after_step : Store
    after_step = store_of s.file s.log q k

    stays_step : StoreStays disks (point_at disk s) (point_at disk after_step)
    stays_step = stays_pass disks (point_at disk s) k.catalog (view q) on.gains.on.learns on.grows

    pub runs_step : RunsStatement disks disk s disk after_step w (or_memory r)
    runs_step =
        let v = view s.pass in
        let u = view q in
        let fit = memory_ok r (IsFit anywhere v u w) item in
        record {
          still = record {
            can = on.can;
            below = run.below;
            goes = here_stays disks (point_at disk s) (point_at disk after_step) stays_step;
            again = λ fine. may_stays disks (point_at disk s) (point_at disk after_step) stays_step run.commit;
          };
          done = memory_ok r (IsControlled (Behind disks disk s disk) v s.registrar u k w)
              (control_done (Behind disks disk s disk) v s.registrar u k w r none on.gains on.shut tells
              (ok_then r (λ x h. fit_fewer anywhere (Behind disks disk s disk) v u w x (λ past behind. tt) h) item));
          committed = other_committed anywhere s.file.flusher.count v u w (or_memory r) other fit;
          rows = rows_other disks disk disk s.registrar.catalog anywhere v u w (or_memory r) other fit (rows_same disks disk);
          part = memory_part r (IsPartControlled v u w) (control_part v u w r none on.gains);
          later = omega arith;
          stops = or_memory_stops (Behind disks disk s disk) (disks.faults disk) (disks.faults disk) r (omega arith);
        }

  -- ---- a checkpoint

  -- what the lane makes of its answer
  abbrev pub by_commit : Result ℕ FlushRefusal → Result Item LaneFault
  by_commit (Ok n) = Ok (item.Checkpointed n)
  by_commit (Err flush.DiskFault) = Err cause.Disk
  by_commit (Err flush.OutOfMemory) = Err cause.Memory

  module _ (disk' : D) (file : StoreFile) (q : Pass) (of : IsPassOf s.log q) (reads : ReadsLog (view s.pass) (view q))
      (cold : file.cold ≡ s.file.cold)
      (goes : GoesOnHere disks (point_at disk s) (point_at disk' (store_of file s.log q s.registrar))) where
    -- the store after it
    abbrev after_commit : Store
    after_commit = store_of file s.log q s.registrar

    pub runs_commit : (r : Result ℕ FlushRefusal) → IfOk r (HasSettled (view s.pass) (view q))
        → IfOk r (IsCommitOf (disks.images disk') s.log.shape s.registrar.catalog file.flusher (view q))
        → ((IsErrOf r flush.DiskFault → ⊥) → MayGoOn disks.images (point_at disk' after_commit))
        → LeavesRows disks disk disk' (by_checkpoint r s.registrar.catalog) (s.registrar.catalog ∷ [])
        → HasFlushCause (disks.faults disk) (disks.faults disk') r
        → RunsStatement disks disk s disk' after_commit work.Checkpoint (by_commit r)
    runs_commit r settled commit again rows why =
        let v = view s.pass in
        let u = view q in
        let k = s.registrar in
        let can = reads_control s.log s.pass q k run.can of reads in
        let idle = idle_law v run.can.of.stands run.can.start in
        record {
          still = record {
            can = can;
            below = subst (IsBelow s.log.key) (sym cold) run.below;
            goes = goes;
            again = λ fine. again (λ bad. fine (broken r bad));
          };
          done = free_done (Behind disks disk s disk') v k u work.Checkpoint (by_commit r) tt reads.learns
              (registry_same v u k k run.can.of.stands of.stands reads.learns run.can.knows can.knows k.catalog refl refl refl)
              (items_anywhere (Behind disks disk s disk') v u work.Checkpoint (by_commit r)
              (commit_item v u (by_commit r) run.can.start idle reads (fits r settled commit)));
          committed = committed r commit;
          rows = left r rows;
          part = commit_part v u (by_commit r) run.can.start idle reads;
          later = why.later;
          stops = stops r why;
        }
      where
        broken : (z : Result ℕ FlushRefusal) → IsErrOf z flush.DiskFault → IsErrOf (by_commit z) cause.Disk
        broken (Ok n) bad = absurd cc
        broken (Err flush.DiskFault) bad = refl
        broken (Err flush.OutOfMemory) bad = absurd cc

        fits : (z : Result ℕ FlushRefusal) → IfOk z (HasSettled (view s.pass) (view q))
            → IfOk z (IsCommitOf (disks.images disk') s.log.shape s.registrar.catalog file.flusher (view q))
            → IfOk (by_commit z) (FitsCheckpoint (view s.pass) (view q))
        fits (Ok n) settled commit = commit_fits (view s.pass) (view q) n (item.Checkpointed n) refl settled commit.counted
        fits (Err flush.DiskFault) settled commit = tt
        fits (Err flush.OutOfMemory) settled commit = tt

        committed : (z : Result ℕ FlushRefusal)
            → IfOk z (IsCommitOf (disks.images disk') s.log.shape s.registrar.catalog file.flusher (view q))
            → IfOk (by_commit z) (IsCheckpointAtMost file.flusher.count)
        committed (Ok n) commit = λ m is. (let same : n ≡ m = cc in let count = commit.count in omega arith)
        committed (Err flush.DiskFault) commit = tt
        committed (Err flush.OutOfMemory) commit = tt

        left : (z : Result ℕ FlushRefusal) → LeavesRows disks disk disk' (by_checkpoint z s.registrar.catalog) (s.registrar.catalog ∷ [])
            → LeavesRows disks disk disk' (rows_by (by_commit z) s.registrar.catalog) (s.registrar.catalog ∷ [])
        left (Ok n) rows = rows
        left (Err flush.DiskFault) rows = rows
        left (Err flush.OutOfMemory) rows = rows

        stops : (z : Result ℕ FlushRefusal) → HasFlushCause (disks.faults disk) (disks.faults disk') z
            → IfErr (by_commit z) (StopsBy (Behind disks disk s disk') (disks.faults disk) (disks.faults disk'))
        stops (Ok n) why = tt
        stops (Err flush.DiskFault) why =
            ((λ bad. absurd cc), record { later = why.later; cause = why.failed refl; whole = λ past behind. tt })
        stops (Err flush.OutOfMemory) why = memory_stops (Behind disks disk s disk') (disks.faults disk) (disks.faults disk') why.later

  -- ---- any other statement

  module _ (disk' : D) (file : StoreFile) (q : Pass) (w : Work) (r : Result Item LaneFault) (shared : IsShared w)
      (other : w ≡ work.Checkpoint → ⊥)
      (of : IsPassOf s.log q) (reads : OnlyReadsFile disks s.log.key disk s.file disk' file)
      (item : IfOk r (IsItem (IsHere (disks.content disk') s.log.key s.file.cold) (view s.pass) (view q) w))
      (stops : IfErr r (λ e. IsPart (view s.pass) (view q) w
      × StopsBy (IsHere (disks.content disk') s.log.key s.file.cold) (disks.faults disk) (disks.faults disk') e)) where
    -- the store after it
    abbrev after_shared : Store
    after_shared = store_of file s.log q s.registrar

    -- what stood before the table is what the disk still has before it
    here : (past : Whole) → Behind disks disk s disk' past → IsHere (disks.content disk') s.log.key s.file.cold past
    here = sound_now disks (point_at disk s) (disks.content disk') s.log.key run.can.of.about reads.pages.cold.content_is

    pub runs_shared : RunsStatement disks disk s disk' after_shared w r
    runs_shared =
        let v = view s.pass in
        let u = view q in
        let k = s.registrar in
        let Here = IsHere (disks.content disk') s.log.key s.file.cold in
        let part = err_then r (λ e h. h.0) stops in
        let gain = gained_any Here v u w r item part in
        let learns = gain.1.gains.on.learns in
        let knows : Knows u k = knows_kept v u k gain.1.gains.on.lane learns gain.1.registry run.can.knows in
        let stays : StoreStays disks (point_at disk s) (point_at disk' after_shared) =
        pages_stay disks (point_at disk s) (point_at disk' after_shared) learns (rows_self v k.catalog) reads.flusher refl
        (subst (λ (z : Key). ReadsPages disks z s.file.cold file.cold disk disk') (sym run.can.of.about) reads.pages) in
        let fit = ok_then r (λ x h. h.fit) item in
        record {
          still = record {
            can = record { of = of; start = gains_start v u gain.1.rows run.can.start gain.1.gains; knows = knows };
            below = reads.below;
            goes = here_stays disks (point_at disk s) (point_at disk' after_shared) stays;
            again = λ fine. may_stays disks (point_at disk s) (point_at disk' after_shared) stays run.commit;
          };
          done = free_done (Behind disks disk s disk') v k u w r (shared_free w shared) learns
              (registry_same v u k k run.can.of.stands of.stands learns run.can.knows knows k.catalog refl refl refl)
              (items_fewer Here (Behind disks disk s disk') v u w r here item);
          committed = other_committed Here file.flusher.count v u w r other fit;
          rows = rows_other disks disk disk' k.catalog Here v u w r other fit
              (rows_kept disks disk disk' (told_still (disks.content disk) (disks.content disk') reads.pages.cold.content_is)
              reads.pages.cold.crash);
          part = free_part v u w r part;
          later = reads.pages.cold.later;
          stops = err_then r (λ e h. (
            h.1.0,
            record {
              later = h.1.1.later;
              cause = h.1.1.cause;
              whole = λ past behind. h.1.1.whole past (here past behind);
            },
          ))
              stops;
        }
