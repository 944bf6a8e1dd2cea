-- A run that came to its end, one that was stopped, and one whose log couldn't be shown.
use Rattle.fish_rule.specs.declared.table.Log.{Log}
use Rattle.fish_run.proofs.Going.{new_store}
use Rattle.std.proofs.Common.{◌≡◌, ℕ, ◌+◌, ◌^◌, List, [], ◌∷◌, ◌++◌, refl, sym, ap, ◌∙◌, subst, true, false}
use Rattle.std.proofs.Common.{Bool, Option, Some, None, Ok, Err, append-nil}
use Rattle.std.specs.Prelude.{IsSome}
use Rattle.fish_catalog.specs.declared.commit.Commit.{Commit}
use Rattle.fish_catalog.specs.declared.entry.Entry.{Entry}
use Rattle.fish_catalog.specs.declared.row.CatRow.{CatRow}
use Rattle.fish_disk.specs.declared.disk.Disk.{Ghosts as Disks}
use Rattle.fish_outside.specs.Content.{Files, Gained, GainedPart}
use Rattle.fish_recover.specs.Stores.{IsOpened}
use Rattle.fish_recover.specs.declared.opened.Opened.{Opened}
use Rattle.fish_report.specs.ReportText.{report_text}
use Rattle.fish_report.specs.declared.item.Item.TheVariants as item
use Rattle.fish_rule.specs.ClosedLog.{IsClosed}
use Rattle.fish_rule.specs.Passes.{view}
use Rattle.fish_rule.specs.Start.{table_lines}
use Rattle.fish_rule.specs.declared.close.Remains.{Remains}
use Rattle.fish_rule.specs.declared.table.Shape.{Shape}
use Rattle.fish_rule.specs.declared.view.Key.{Key}
use Rattle.fish_run.proofs.Blocks.{fulls_agree}
use Rattle.fish_run.proofs.Ends.{all_first}
use Rattle.fish_run.proofs.Faults.{write_loud}
use Rattle.fish_run.proofs.Keeping.{entries_end, keeps_of, sound_first, still_keeps}
use Rattle.fish_run.proofs.Lines.{fulls_past}
use Rattle.fish_run.proofs.Shown.{store_is}
use Rattle.fish_run.proofs.Written.{gained_none, part_still, part_then, part_whole, written_both}
use Rattle.fish_run.proofs.Tables.{renewed_may}
use Rattle.fish_run.specs.within.Running.{Finishes}
use Rattle.fish_run.specs.Blocks.{Round, after_rounds, first_registry, left_table, rounds_of, with_cut}
use Rattle.fish_run.specs.Faults.{IsRunUndamaged}
use Rattle.fish_run.specs.Ran.{IsRunLost, IsRunStopped, IsRunWhole, StillKeeps, StoodFor, opened_item}
use Rattle.fish_run.specs.Tables.{LastTable}
use Rattle.fish_run.specs.Reports.{report_of, whole_report}
use Rattle.fish_run.specs.within.Faults.{IsWriteFault}
use Rattle.fish_run.specs.within.Runs.{CanClose, IsAllKept, IsNewStore}
use Rattle.fish_run.specs.within.Steps.{HasRunRounds, RunsAll, RunsSome}
use Rattle.fish_run.specs.Tables.{AreRenewed}
use Rattle.fish_run.specs.declared.fault.RunFault.{RunFault}
use Rattle.fish_run.specs.declared.lasting.Stopped.{Stopped}
use Rattle.fish_script.specs.declared.script.Block as script
use Rattle.fish_store.proofs.Opened.{opened_at}
use Rattle.fish_store.specs.Opened.{IsOfOpened, first_past, opened_point}
use Rattle.fish_store.specs.Points.{point_at}
use Rattle.fish_store.specs.Sound.{Point}
use Rattle.fish_store.specs.declared.store.Store.{Store}

-- the store is what was opened over a disk, at its first moment
pub record OpenedAs {D : Type 0} (disks : Disks D) (disk : D) (o : Opened) (s : Store) : Type 0 where
  pub from : point_at disk s ≡ opened_point disk o
  pub log : s.log ≡ o.log
  pub rows : s.registrar.catalog ≡ o.catalog
  pub store : IsNewStore disks.images disk s

pub opened_as : {D : Type 0} (disks : Disks D) (disk : D) (o : Opened) (s : Store)
    → (c : Commit) × (log : List Entry) × IsOpened (disks.content disk) (disks.images disk) c log o → IsOfOpened o s
    → OpenedAs disks disk o s
opened_as disks disk o s op m = record {
  from = opened_at o s m disk;
  log = m.log;
  rows = m.rows;
  store = new_store disks disk op.0 op.1 o op.2 s m;
}

-- a store that was opened, from its first moment on
module _
    {D : Type 0} (disks : Disks D) (read : (d : D) (i : List ℕ) → disks.content d ≡ Some i → disks.images d i) (disk : D) (o : Opened)
    (s : Store) (begun : OpenedAs disks disk o s) (disk' : D) (told : Option Files) (text : List script.Block)
    (old mid new : Option (List ℕ)) where
  -- that moment
  abbrev p : Point D
  p = point_at disk s

  abbrev rows : List CatRow
  rows = s.registrar.catalog

  from : p ≡ opened_point disk o
  from = begun.from

  unshut : p.view.shut ≡ None
  unshut = begun.store.unshut

  buckets : o.log.key.buckets ≡ 2 ^ o.log.shape.bucket_bits
  buckets = subst (λ (z : Log). z.key.buckets ≡ 2 ^ z.shape.bucket_bits) begun.log begun.store.go.table.buckets

  about : p.view.about ≡ o.log.key
  about = begun.store.go.between.can.of.about ∙ ap (λ (z : Log). z.key) begun.log

  same : rows ≡ o.catalog
  same = begun.rows

  abbrev pub All : Store → Bool → ℕ → Type 0
  All x refused end = RunsAll disks p (point_at disk' x) o.count (first_registry rows) (opened_item o) told text
      old mid refused end

  abbrev pub Stops : Bool → Stopped → Type 0
  Stops refused e = RunsSome disks p disk' o.count (first_registry rows) (opened_item o) told text old mid
      refused e

  -- all of the log of a store is committed
  abbrev pub Kept : Store → Type 0
  Kept x = IsAllKept disks.images disk' x

  -- tables begin where the first one does
  first_is : p.view.about.number ≡ o.log.key.number
  first_is = ap (λ (k : Key). k.number) about

  renewed_of : (rounds : List Round) (may : Bool) → AreRenewed p.view.about.number rounds may false
      → AreRenewed o.log.key.number rounds may false
  renewed_of rounds may h = subst (λ (z : ℕ). AreRenewed z rounds may false) first_is h

  -- after all blocks no new one has to be begun
  renewed_all : (rounds : List Round) → AreRenewed p.view.about.number rounds false false
      → AreRenewed o.log.key.number (rounds ++ []) true false
  renewed_all rounds h = subst (λ (z : List Round). AreRenewed o.log.key.number z true false) (sym (append-nil rounds))
      (renewed_of rounds true (renewed_may p.view.about.number rounds false false h))

  module _ (x : Store) (close : CanClose x) (remains : Remains) (closed : IsClosed (view x.pass) remains) where
    -- what is left is that of the last table
    last_of : (rounds : List Round) (fresh : Bool) (cut : Option Round) (end : ℕ)
        → HasRunRounds disks p (point_at disk' x) o.count (first_registry rows) rounds fresh cut end
        → LastTable o remains fresh rounds cut
    last_of rounds fresh cut end h =
        let shape : x.log.shape ≡ o.log.shape = h.shape ∙ ap (λ (z : Point D). z.shape) from in
        let key : (view x.pass).about ≡ x.log.key = close.of.about in
        record {
          view = view x.pass;
          closed = closed;
          heads = closed.many_heads ∙ ap (λ (k : Key). k.buckets) key ∙ close.table.buckets
              ∙ ap (λ (z : Shape). 2 ^ z.bucket_bits) shape ∙ sym buckets;
          fulls = fulls_agree (view x.pass) (left_table fresh [] rounds cut) (view x.pass).about.end close.of.stands
              (h.marks [] (λ b among. elim among [ ])) refl;
          past = fulls_past (view x.pass) remains closed (left_table fresh [] rounds cut) (h.marks [] (λ b among. elim among [ ]));
          end = subst (λ (k : Key). k.end ≡ k.line + table_lines o.log.shape.pages k.number k.line) (sym key)
              (subst (λ (z : Shape). x.log.key.end ≡ x.log.key.line + table_lines z.pages x.log.key.number x.log.key.line) shape
              close.table.end);
          same = λ is.
              let begins : (view x.pass).about.number ≡ p.view.about.number
              = sym closed.base ∙ is ∙ ap (λ (k : Key). k.number) (sym about) in
              let same = h.table.same begins in
              (same.0 ∙ about, same.1, same.2);
        }

    -- all blocks ran, the log was committed, and its end was written
    whole_of : (refused : Bool) (end : ℕ) → All x refused end → Kept x
        → Gained mid new (report_text (item.Closed end ∷ []))
        → IsRunWhole disks disk disk' o told text remains old new refused
    whole_of refused end h kept last = record {
      blocks = h.blocks;
      are = h.all;
      renewed = renewed_of (rounds_of h.blocks) false h.renewed;
      last = last_of (rounds_of h.blocks) false None end h.ran;
      written = subst (λ (z : ℕ). Gained old new (report_text (whole_report (opened_item o) h.blocks z)))
          (sym (entries_end (view x.pass) end remains h.ran.ends closed))
          (written_both old mid new (report_of (opened_item o) h.blocks) (item.Closed end ∷ []) h.written last);
      refused_is = h.refused_is;
      keeps = keeps_of disks read disk o p (point_at disk' x) from rows same (rounds_of h.blocks) false None end h.ran
          unshut remains true closed (λ e. kept.end) (λ e. kept.line) (λ e. h.rows_are) (λ e. kept.catalog);
    }

    -- of its end a part was written at most
    late_of : (refused : Bool) (end : ℕ) (why : RunFault) → IsWriteFault why → All x refused end
        → Kept x → GainedPart mid new (report_text (item.Closed end ∷ []))
        → IsRunStopped disks disk disk' o told text remains old new refused why
    late_of refused end why loud h kept last = record {
      blocks = h.blocks;
      part = [];
      cut = None;
      fresh = false;
      are = all_first told text h.blocks h.all;
      next = tt;
      named = tt;
      renewed = renewed_all (rounds_of h.blocks) h.renewed;
      last = last_of (rounds_of h.blocks ++ []) false None end ran;
      ended = true;
      written = (
        h.all,
        subst (λ (z : ℕ). GainedPart old new (report_text (whole_report (opened_item o) h.blocks z)))
            (sym (entries_end (view x.pass) end remains h.ran.ends closed))
            (part_then old mid new (report_of (opened_item o) h.blocks) (item.Closed end ∷ []) h.written last),
      );
      refused_is = h.refused_is;
      exact = λ output memory. absurd (write_loud why loud output memory);
      input = λ e. refl;
      keeps = keeps_of disks read disk o p (point_at disk' x) from rows same (rounds_of h.blocks ++ []) false None
          end ran unshut remains true closed (λ e. kept.end) (λ e. kept.line)
          (λ e. h.rows_are ∙ ap (λ (z : List Round). (after_rounds (first_registry rows) z).rows) (sym (append-nil (rounds_of h.blocks))))
          (λ e. kept.catalog);
    }
      where
        ran : HasRunRounds disks p (point_at disk' x) o.count (first_registry rows) (rounds_of h.blocks ++ []) false
            None end
        ran = subst (λ (z : List Round). HasRunRounds disks p (point_at disk' x) o.count (first_registry rows) z false
            None end) (sym (append-nil (rounds_of h.blocks))) h.ran

    -- the run came to its end
    pub ends_whole : (refused : Bool) (end : ℕ) (why : Option RunFault) → why ≡ None → All x refused end
        → Kept x → Finishes (Ok end) why mid new
        → IsRunWhole disks disk disk' o told text remains old new refused
    ends_whole refused end None is all kept f = whole_of refused end all kept f
    ends_whole refused end (Some why) is all kept f = absurd cc

    -- or a fault came at its end
    pub ends_late : (refused : Bool) (end : ℕ) (why : RunFault) (fault : Option RunFault) → fault ≡ Some why → All x refused end
        → Kept x → Finishes (Ok end) fault mid new
        → IsRunStopped disks disk disk' o told text remains old new refused why
    ends_late refused end why fault is all kept f =
        let last = subst (λ (z : Option RunFault). Finishes (Ok end) z mid new) is f in late_of refused end why last.0 all kept last.1

  -- where a fault stopped the blocks, a store that is there may be closed
  close_is : {refused : Bool} (e : Stopped) (x : Store) → e.store ≡ Some x → (h : Stops refused e)
      → (h.stops.at ≡ point_at disk' x) × CanClose x
  close_is e x is h = store_is (λ z. (h.stops.at ≡ point_at disk' z) × CanClose z) e.store x is h.stops.store

  -- and then the log is closed
  stopped_of : (refused : Bool) (x : Store) (remains : Remains) → IsClosed (view x.pass) remains → (e : Stopped) → e.store ≡ Some x
      → Stops refused e → Gained mid new []
      → IsRunStopped disks disk disk' o told text remains old new refused e.why
  stopped_of refused x remains closed e is h none = record {
    blocks = h.blocks;
    part = h.part;
    cut = h.cut;
    fresh = h.stops.fresh;
    are = h.are;
    next = h.next;
    named = h.stops.cut_by;
    renewed = renewed_of (with_cut (rounds_of h.blocks ++ h.part) h.cut) true h.renewed;
    last = last_of x (close_is e x is h).1 remains closed (rounds_of h.blocks ++ h.part) h.stops.fresh h.cut h.stops.end ran;
    ended = false;
    written = part_still old mid new (report_text (report_of (opened_item o) h.blocks)) h.written none;
    refused_is = h.refused_is;
    exact = λ output memory. gained_none old mid new (report_text (report_of (opened_item o) h.blocks)) (h.exact output memory) none;
    input = h.input;
    keeps = keeps_of disks read disk o p (point_at disk' x) from rows same (rounds_of h.blocks ++ h.part)
        h.stops.fresh h.cut h.stops.end ran unshut remains false closed (λ i. absurd cc) (λ i. absurd cc)
        (λ i. absurd cc) (λ i. absurd cc);
  }
    where
      at : h.stops.at ≡ point_at disk' x
      at = (close_is e x is h).0

      ran : HasRunRounds disks p (point_at disk' x) o.count (first_registry rows) (rounds_of h.blocks ++ h.part)
          h.stops.fresh h.cut h.stops.end
      ran = subst (λ (z : Point D). HasRunRounds disks p z o.count (first_registry rows)
          (rounds_of h.blocks ++ h.part) h.stops.fresh h.cut h.stops.end) at h.stops.ran

  -- the same by how the fault was handed on
  pub ends_stopped : (refused : Bool) (x : Store) (remains : Remains) → IsClosed (view x.pass) remains → (e : Stopped) (why : RunFault)
      (fault : Option RunFault) → fault ≡ Some why → e.store ≡ Some x → Stops refused e → Finishes (Err e.why) fault mid new
      → IsRunStopped disks disk disk' o told text remains old new refused why
  ends_stopped refused x remains closed e why fault fault_is is some f =
      let both : Some e.why ≡ Some why = sym f.0 ∙ fault_is in
      let same : e.why ≡ why = cc in
      subst (IsRunStopped disks disk disk' o told text remains old new refused) same
      (stopped_of refused x remains closed e is some f.1)

  -- all blocks ran, and there was no memory to show the log
  pub lost_all : (x : Store) (refused : Bool) (end : ℕ) → All x refused end
      → IsRunLost disks disk disk' o told text old mid refused
  lost_all x refused end h = record {
    blocks = h.blocks;
    part = [];
    cut = None;
    are = all_first told text h.blocks h.all;
    next = tt;
    written = part_whole old mid (report_text (report_of (opened_item o) h.blocks)) h.written;
    refused_is = h.refused_is;
    keeps = still_keeps disks read disk o p (point_at disk' x) from rows same (rounds_of h.blocks ++ []) false None
        end
        (subst (λ (z : List Round). HasRunRounds disks p (point_at disk' x) o.count (first_registry rows) z false None
        end) (sym (append-nil (rounds_of h.blocks))) h.ran) unshut;
  }

  -- or a fault stopped them
  pub lost_some : (refused : Bool) (e : Stopped) → Stops refused e
      → IsRunLost disks disk disk' o told text old mid refused
  lost_some refused e h = record {
    blocks = h.blocks;
    part = h.part;
    cut = h.cut;
    are = h.are;
    next = h.next;
    written = h.written;
    refused_is = h.refused_is;
    keeps = subst (λ (z : D). (c : Commit) (log : List Entry) (t : ℕ) → StoodFor disks disk z o c log t
        → StillKeeps (disks.images z) (disks.since z t) c log (rounds_of h.blocks ++ h.part) h.cut) h.stops.disk_is
        (still_keeps disks read disk o p h.stops.at from rows same (rounds_of h.blocks ++ h.part) h.stops.fresh h.cut
        h.stops.end h.stops.ran unshut);
  }

  -- ---- what is told of the outside

  -- the disk's content was told at first where it is in the end
  told_some : {refused : Bool} (e : Stopped) → Stops refused e → IsSome (disks.content disk') → IsSome (disks.content p.disk)
  told_some e h told = h.stops.ran.runs.told_before (subst (λ (z : D). IsSome (disks.content z)) (sym h.stops.disk_is) told)

  -- and then the fault that stopped the blocks is no damage
  pub well_some : {refused : Bool} (c : Commit) (log : List Entry) → IsOpened (disks.content disk) (disks.images disk) c log o
      → (e : Stopped)
      → Stops refused e
      → IsSome (disks.content disk') → IsRunUndamaged e.why
  well_some c log h e some told = some.stops.whole (first_past log o) (record {
    sound = sound_first disks read disk o p p from c log h (told_some e some told);
    told = told;
  })
