-- What a run leaves of the store, in the log that is closed and on the disk.
use Rattle.std.proofs.Common.{◌≡◌, ℕ, ◌≤◌, List, [], ◌∷◌, ◌++◌, length, map, refl, sym, ap, ◌∙◌, subst, inl, ⊎_elim, arith}
use Rattle.std.proofs.Common.{Bool, true, Option, Some, None, length-append}
use Rattle.std.specs.Prelude.{IsSome}
use Rattle.fish_catalog.specs.Clamps.{clamped}
use Rattle.fish_catalog.specs.declared.commit.Commit.{Commit}
use Rattle.fish_catalog.specs.declared.entry.Entry.{Entry}
use Rattle.fish_catalog.specs.declared.row.CatRow.{CatRow}
use Rattle.fish_disk.specs.declared.disk.Disk.{Ghosts as Disks}
use Rattle.fish_flush.proofs.Committed.{committed_length}
use Rattle.fish_flush.proofs.Resting.{rest_stands}
use Rattle.fish_flush.specs.Reading.{IsLineAt}
use Rattle.fish_image.specs.Stands.{Stands}
use Rattle.fish_lanes.proofs.Surely.{closed_length}
use Rattle.fish_lanes.specs.Ending.{EndsAlone}
use Rattle.fish_recover.specs.Stores.{IsOpened}
use Rattle.fish_recover.specs.declared.opened.Opened.{Opened}
use Rattle.fish_rule.specs.ClosedLog.{IsClosed}
use Rattle.fish_rule.specs.declared.close.Remains.{Remains}
use Rattle.fish_rule.specs.declared.table.Shape.{Shape}
use Rattle.fish_rule.specs.declared.view.View.{View}
use Rattle.fish_rule.proofs.laws.Lists.{among_left}
use Rattle.fish_run.proofs.CommitRows.{HaveLeftLast}
use Rattle.fish_run.proofs.Lines.{line_is}
use Rattle.fish_run.proofs.Turns.{none_full}
use Rattle.fish_run.specs.Blocks.{Round, SaysFirst, SaysRun, after_rounds, first_registry, with_cut}
use Rattle.fish_run.specs.CommitRows.{KeepsDefinitions, registry_at, rows_through}
use Rattle.fish_run.specs.Ran.{Keeps, StillKeeps, StoodFor, entries_of}
use Rattle.fish_run.specs.within.Steps.{HasRunRounds}
use Rattle.fish_store.proofs.CommitRows.{has_rows}
use Rattle.fish_store.proofs.Ending.{run_lost, run_shown}
use Rattle.fish_store.proofs.Opening.{opened_sound, stands_part}
use Rattle.fish_store.specs.CommitRows.{HasRowsOf, HaveRowsOf}
use Rattle.fish_store.specs.Ending.{IsLost as LosesLog, IsShownLog, KeepsCatalog}
use Rattle.fish_store.specs.Opened.{first_past, opened_point}
use Rattle.fish_store.specs.Sound.{IsImageOf, Point, Reaches, StoreRuns, Sound}
use Rattle.fish_whole.specs.Whole.{Whole}

-- the whole that is shown has as many entries as stood before the table and are left of it
shown_length : (now since : List ℕ → Type 0) (old : List Entry) (count : ℕ) (P : Whole → Type 0) (remains : Remains)
    → (s : IsShownLog now since old count P remains) → length s.whole.log ≡ entries_of remains
shown_length now since old count P remains s =
    let both = length-append s.past.log remains.log in
    let all = ap length s.shows in
    let base = s.base in
    omega arith

-- what is said of it may be said of a log of that length
shown_so : (now since : List ℕ → Type 0) (old : List Entry) (count : ℕ) (P Q : Whole → Type 0) (remains : Remains)
    → ((w : Whole) → length w.log ≡ entries_of remains → P w → Q w) → IsShownLog now since old count P remains
    → IsShownLog now since old count Q remains
shown_so now since old count P Q remains so s = record {
  view = s.view;
  closed = s.closed;
  past = s.past;
  whole = s.whole;
  behind = s.behind;
  shows = s.shows;
  base = s.base;
  first = s.first;
  told = so s.whole (shown_length now since old count P remains s) s.told;
  crash_now = s.crash_now;
  crash_since = s.crash_since;
}

-- the log that is closed ends where its pass knows that it does
pub entries_end : (v : View) (end : ℕ) (remains : Remains) → EndsAlone v end → IsClosed v remains → entries_of remains ≡ end
entries_end v end remains ends closed = (let base = closed.base in let all = closed_length v end remains ends closed in omega arith)

-- a store that was opened, from its first moment to one in which its pass is as it is closed
module _
    {D : Type 0} (disks : Disks D)
    (read : (d : D) (i : List ℕ) → disks.content d ≡ Some i → disks.images d i)
    (disk : D) (o : Opened) (p q : Point D) (from : p ≡ opened_point disk o) where
  -- it was sound after the log for which the disk stood
  pub sound_first : (c : Commit) (log : List Entry) → IsOpened (disks.content disk) (disks.images disk) c log o
      → IsSome (disks.content p.disk)
      → Sound disks p (first_past log o)
  sound_first c log h told =
      let before : IsSome (disks.content disk) = subst (λ (z : Point D). IsSome (disks.content z.disk)) from told in
      subst (λ (z : Point D). Sound disks z (first_past log o)) (sym from)
      (opened_sound disks disk c log o h (read disk) before)

  module _ (P : Whole → Type 0) (runs : StoreRuns disks p q P) (c : Commit) (log : List Entry) (t : ℕ)
      (s : StoodFor disks disk q.disk o c log t) where
    sound : Sound disks p (first_past log o)
    sound = sound_first c log s.is (runs.told_before s.told)

    -- what was told is so of each whole that may be in the end
    reaches : Reaches disks (first_past log o) p q P
    reaches = runs.reaches (first_past log o) sound s.told

    early : t ≤ disks.moment p.disk
    early = subst (λ (z : Point D). t ≤ disks.moment z.disk) (sym from) s.early

    -- how many entries the log had
    size : length log ≡ c.count
    size = (let r = s.is.carries.rest in committed_length o.flusher c r.body r.lines log r.committed)

    many : length log ≤ p.flusher.count
    many = subst (λ (z : Point D). length log ≤ z.flusher.count) (sym from)
        (let count = s.is.carries.rest.committed.count in let same = size in omega arith)

    stood : (i : List ℕ) → disks.since p.disk t i → IsImageOf (first_past log o) p.view (length log) i
    stood = subst (λ (z : Point D). (i : List ℕ) → disks.since z.disk t i → IsImageOf (first_past log o) z.view (length log) i) (sym from)
        (λ i left. stands_part disks disk c log o s.is i (s.stood i left))

    -- a crash leaves what was committed
    lost_of : LosesLog (disks.images q.disk) (disks.since q.disk t) log q.flusher.count
    lost_of = run_lost disks (first_past log o) p q P reaches t early runs.rises many stood

    shown_of : (remains : Remains) → IsClosed q.view remains → q.view.lane ≡ 1 → q.view.out ≡ []
        → IsShownLog (disks.images q.disk) (disks.since q.disk t) log q.flusher.count P remains
    shown_of remains closed control all = run_shown disks
        (first_past log o) p q P reaches t early runs.rises many stood
        remains closed control all

  module _ (rows : List CatRow) (same : rows ≡ o.catalog) (rounds : List Round) (fresh : Bool) (cut : Option Round) (end : ℕ)
      (h : HasRunRounds disks p q o.count (first_registry rows) rounds fresh cut end)
      (unshut : p.view.shut ≡ None) where
    -- a crash leaves the definitions of a moment
    keeps_rows : (c : Commit) (log : List Entry) (t : ℕ) → StoodFor disks disk q.disk o c log t
        → KeepsDefinitions (disks.images q.disk) (disks.since q.disk t) c (with_cut rounds cut)
    keeps_rows c log t s =
        let at_rest = s.is.carries.rest in
        let stood : (i : List ℕ) → Stands c i log → HasRowsOf (c.rows ∷ []) i = λ i stands.
        record { commit = c; log = log; stands = stands; among = inl refl } in
        let first : HaveRowsOf (disks.images p.disk) (c.rows ∷ []) =
        subst (λ (z : Point D). HaveRowsOf (disks.images z.disk) (c.rows ∷ [])) (sym from)
        (λ i here. stood i (rest_stands (disks.images disk) o.flusher c log at_rest i here)) in
        let early : t ≤ disks.moment p.disk = subst (λ (z : Point D). t ≤ disks.moment z.disk) (sym from) s.early in
        let rows_are : rows ≡ map (clamped c.count) c.rows = same ∙ s.is.catalog in
        let h' : HaveLeftLast disks p.disk q.disk (registry_at c) (with_cut rounds cut) =
        subst (λ (z : List CatRow). HaveLeftLast disks p.disk q.disk (first_registry z) (with_cut rounds cut)) rows_are h.rows in
        record {
          left = h'.now s.told (c.rows ∷ []) first;
          were = λ i since. ⊎_elim
              (λ (was : disks.since p.disk t i). has_rows (c.rows ∷ []) (c.rows ∷ rows_through (registry_at c) (with_cut rounds cut))
              (λ these m. among_left these (c.rows ∷ []) (rows_through (registry_at c) (with_cut rounds cut)) m) i
              (stood i (s.stood i (subst (λ (z : Point D). disks.since z.disk t i) from was))))
              (λ (has : HasRowsOf ((c.rows ∷ []) ++ rows_through (registry_at c) (with_cut rounds cut)) i). has)
              ((h'.since s.told (c.rows ∷ []) first).before t i early since);
        }

    -- all that was told is so of the whole that is shown
    pub keeps_of : (remains : Remains) (ended : Bool) → IsClosed q.view remains → (ended ≡ true → EndsAlone q.view q.flusher.count)
        → (ended ≡ true → IsLineAt q.view q.flusher.count q.flusher.line)
        → (ended ≡ true → q.rows ≡ (after_rounds (first_registry rows) rounds).rows)
        → (ended ≡ true → (i : List ℕ) → disks.images q.disk i → KeepsCatalog q.shape q.rows q.flusher.line i)
        → (c : Commit) (log : List Entry) (t : ℕ) → StoodFor disks disk q.disk o c log t
        → Keeps (disks.images q.disk) (disks.since q.disk t) c log ended rounds cut remains
    keeps_of remains ended closed all line rows_are kept c log t s = record {
      count = q.flusher.count;
      acknowledged = h.committed;
      shown = shown;
      all = λ is. sym (entries_end q.view q.flusher.count remains (all is) closed)
          ∙ sym (shown_length (disks.images q.disk) (disks.since q.disk t) log q.flusher.count Here remains shown);
      catalog = λ is i here.
          let k = kept is i here in
          record {
            commit = k.commit;
            log = k.log;
            stands = k.stands;
            rows_are = k.rows_are ∙ rows_are is
                ∙ ap (λ (z : List CatRow). (after_rounds (first_registry z) rounds).rows) (same ∙ s.is.catalog);
            lines_are = k.lines_are ∙ line_is q.view remains closed q.flusher.count q.flusher.line (all is) (line is);
            pages = k.pages ∙ ap (λ (z : Shape). z.pages) shape ∙ sym s.is.carries.pages;
            bits = k.bits ∙ ap (λ (z : Shape). z.bucket_bits) shape ∙ sym s.is.carries.bits;
          };
      definitions = keeps_rows c log t s;
    }
      where
        Told : Whole → Type 0
        Told w = SaysFirst w o.count (first_registry rows) rounds cut end

        Here : Whole → Type 0
        Here w = SaysRun w (length log) (map (clamped c.count) c.rows) rounds cut (length w.log)

        shape : q.shape ≡ o.log.shape
        shape = h.shape ∙ ap (λ (z : Point D). z.shape) from

        first : o.count ≡ length log
        first = s.is.count ∙ sym (size Told h.runs c log t s)

        so : (w : Whole) → length w.log ≡ entries_of remains → Told w → Here w
        so w long tells = record {
          tells =
              subst (λ (z : ℕ). SaysFirst w (length log) (first_registry (map (clamped c.count) c.rows)) rounds cut z)
              (sym (long ∙ entries_end q.view end remains h.ends closed))
              (subst (λ (z : List CatRow). SaysFirst w (length log) (first_registry z) rounds cut end) (same ∙ s.is.catalog)
              (subst (λ (z : ℕ). SaysFirst w z (first_registry rows) rounds cut end) first tells));
          fulls = h.fulls [] (none_full p.view.shut unshut);
        }

        shown : IsShownLog (disks.images q.disk) (disks.since q.disk t) log q.flusher.count Here remains
        shown = shown_so (disks.images q.disk) (disks.since q.disk t) log q.flusher.count Told Here remains so
            (shown_of Told h.runs c log t s remains closed h.ends.alone.control h.ends.alone.all)

    -- and without it a crash leaves what was committed
    pub still_keeps : (c : Commit) (log : List Entry) (t : ℕ) → StoodFor disks disk q.disk o c log t
        → StillKeeps (disks.images q.disk) (disks.since q.disk t) c log rounds cut
    still_keeps c log t s = record {
      count = q.flusher.count;
      acknowledged = h.committed;
      lost = lost_of (λ w. SaysFirst w o.count (first_registry rows) rounds cut end) h.runs c log t s;
      definitions = keeps_rows c log t s;
    }
