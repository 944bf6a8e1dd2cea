-- A checkpoint, done or refused by the disk, goes from one moment to the next.
use Rattle.std.proofs.Common.{◌≡◌, ℕ, ◌+◌, ◌≤◌, ◌⊎◌, arith, List, ◌++◌, Option, Some, None, false, true, ap, subst, sym, refl}
use Rattle.std.proofs.Common.{inl, inr, ◌∙◌, [], ◌∷◌, length, take, drop, length-append, length-drop}
use Rattle.std.specs.Prelude.{IfOk, IsErrOf, IsSome, Result, Ok, Err}
use Rattle.std.proofs.lemmas.List.{drop-append-le, take-append-drop, take-append-le}
use Rattle.fish_catalog.specs.declared.commit.Commit.{Commit}
use Rattle.fish_catalog.specs.declared.entry.Entry.{Entry}
use Rattle.fish_catalog.specs.declared.row.CatRow.{CatRow}
use Rattle.fish_cold.specs.Carries.{CarriesTable}
use Rattle.fish_cold.specs.declared.cold.Cold.{Cold}
use Rattle.fish_disk.proofs.Moments.{leaves_more, leaves_none}
use Rattle.fish_disk.specs.Content.{StillReads}
use Rattle.fish_disk.specs.Crash.{LeavesOnly}
use Rattle.fish_disk.specs.declared.disk.Disk.{Ghosts as Disks}
use Rattle.fish_flush.proofs.Committed.{committed_length, told_both, told_later}
use Rattle.fish_flush.proofs.Resting.{rest_stands}
use Rattle.fish_flush.specs.Carrying.{CarriesLog, HasCommitted, HasSettled, LeavesEither, ReadsLog}
use Rattle.fish_flush.specs.Kept.{commit_of}
use Rattle.fish_flush.specs.Rows.{HaveGrown}
use Rattle.fish_flush.specs.declared.flusher.Flusher.{Flusher}
use Rattle.fish_flush.specs.declared.refusal.FlushRefusal.{FlushRefusal}
use Rattle.fish_flush.specs.declared.refusal.FlushRefusal.TheVariants.{DiskFault, OutOfMemory}
use Rattle.fish_image.specs.Reached.{Reached}
use Rattle.fish_image.specs.Stands.{Stands}
use Rattle.fish_recover.proofs.Excluding.{one_stands}
use Rattle.fish_rule.proofs.laws.Lists.{among_left, among_right}
use Rattle.fish_rule.specs.Logs.{AreKnown}
use Rattle.fish_rule.specs.Views.{Among}
use Rattle.fish_rule.specs.declared.table.Shape.{Shape}
use Rattle.fish_rule.specs.declared.view.Key.{Key}
use Rattle.fish_rule.specs.declared.view.View.{View}
use Rattle.fish_slots.proofs.Commits.{rests_commit}
use Rattle.fish_store.proofs.Kept.{stays_carried}
use Rattle.fish_store.proofs.Again.{may_again}
use Rattle.fish_store.proofs.Running.{here_stays, may_stays}
use Rattle.fish_store.proofs.Same.{still_self, table_same}
use Rattle.fish_store.specs.CommitRows.{HasRowsOf, HaveRowsOf, LeavesRows, by_checkpoint}
use Rattle.fish_store.specs.Sound.{GoesOnHere, HasPast, IsImageOf, MayCommit, MayGoOn, Point, Rests, Sound, StoreStays}
use Rattle.fish_whole.proofs.Parts.{fits_later}
use Rattle.fish_whole.proofs.Prefixes.{prefix_self}
use Rattle.fish_whole.specs.Whole.{IsKnown, IsPrefix, Whole}

-- a log that begins with what was there before the table, and goes on as the pass was told, is a part of the log for good
known_of : (past : Whole) (u : View) (log : List Entry) → take (length past.log) log ≡ past.log
    → AreKnown u (length past.log) (drop (length past.log) log) → IsKnown past u log
known_of past u log begins told = record {
  entries = drop (length past.log) log;
  told = told;
  front =
      let whole : log ≡ past.log ++ drop (length past.log) log =
      sym (take-append-drop (length past.log) log) ∙ ap (λ l. l ++ drop (length past.log) log) begins in
      subst (λ (l : List Entry). IsPrefix log l) whole (prefix_self log);
}

module _
    {D : Type 0} (disks : Disks D)
    (p q : Point D) (reads : ReadsLog p.view q.view) (cold : q.cold ≡ p.cold) (shape : q.shape ≡ p.shape) (rows : q.rows ≡ p.rows)
    (live : p.flusher.shut ≡ false)
    (may : MayCommit disks.images p)
    (read : (d : D) (i : List ℕ) → disks.content d ≡ Some i → disks.images d i) (told : (d : D) (i : List ℕ) → disks.images d i
    → IsSome (disks.content d))
    (either : (c : Commit) (old : List Entry) (h : CarriesLog (disks.images p.disk) p.flusher p.view p.shape p.rows c old)
    → LeavesEither disks.images disks.since disks.moment p.disk q.disk q.view p.rows c old h.rest.lines) where
  -- the disk was told, where it is
  before : IsSome (disks.content q.disk) → IsSome (disks.content p.disk)
  before some = by (disks.content q.disk) refl some
    where
      by : (o : Option (List ℕ)) → disks.content q.disk ≡ o → IsSome o → IsSome (disks.content p.disk)
      by None is some = absurd cc
      by (Some i) is some = (let was = (either may.0 may.1 may.2).was i (read q.disk i is) in told p.disk was.0 was.1)

  module _ (past : Whole) (s : Sound disks p past) where
    -- what rests there
    abbrev rest : Rests disks.images p past
    rest = s.rests live

    -- how many entries were there before the table, and how many the last commit has
    past_size : (length past.log ≤ length rest.log) × (length rest.log ≡ p.flusher.count)
    past_size =
        let size = committed_length p.flusher rest.commit rest.carries.rest.body rest.carries.rest.lines rest.log
        rest.carries.rest.committed in
        let count = rest.carries.rest.committed.count in
        let from = rest.carries.from in
        let base = s.fits.base in
        (omega arith, omega arith)

    -- the last commit's entries, and others that the pass was told, are a part of the log for good
    more_known : (more : List Entry) → AreKnown q.view rest.commit.count more → IsKnown past q.view (rest.log ++ more)
    more_known more told =
        let n : ℕ = length past.log in
        let size = past_size in
        let count = rest.carries.rest.committed.count in
        let base = s.fits.base in
        let begins : take n (rest.log ++ more) ≡ past.log = take-append-le n rest.log more size.0 ∙ rest.begins in
        let cut : drop n (rest.log ++ more) ≡ drop n rest.log ++ more = drop-append-le n rest.log more size.0 in
        let left = length-drop n rest.log in
        let place : rest.commit.count ≡ n + length (drop n rest.log) = omega arith in
        let first : AreKnown q.view n (drop n rest.log) =
        told_later p.view q.view n (drop n rest.log) reads.learns
        (subst (λ (k : ℕ). AreKnown p.view k (drop k rest.log)) base rest.carries.told) in
        known_of past q.view (rest.log ++ more) begins
        (subst (AreKnown q.view n) (sym cut)
        (told_both q.view n (drop n rest.log) more first (subst (λ (k : ℕ). AreKnown q.view k more) place told)))

    -- the last commit's entries are
    old_known : IsKnown past q.view rest.log
    old_known =
        let n : ℕ = length past.log in
        known_of past q.view rest.log rest.begins
        (told_later p.view q.view n (drop n rest.log) reads.learns
        (subst (λ (k : ℕ). AreKnown p.view k (drop k rest.log)) s.fits.base rest.carries.told))

    -- whatever a crash leaves is a part of the log that has the last commit's entries
    either_image : (h : LeavesEither disks.images disks.since disks.moment p.disk q.disk q.view p.rows rest.commit rest.log
        rest.carries.rest.lines)
        (i : List ℕ)
        → Stands rest.commit i rest.log ⊎ Stands h.next i (rest.log ++ h.more) → IsImageOf past q.view p.flusher.count i
    either_image h i (inl stands) = (let size = past_size in record {
      commit = rest.commit;
      log = rest.log;
      stands = stands;
      many = omega arith;
      known = old_known;
    })
    either_image h i (inr stands) = record {
      commit = h.next;
      log = rest.log ++ h.more;
      stands = stands;
      many = (let size = past_size in let both = length-append rest.log h.more in omega arith);
      known = more_known h.more h.told;
    }

    -- so it is at each moment
    leaves_part : LeavesOnly disks.images disks.since disks.moment p.disk q.disk (IsImageOf past q.view p.flusher.count)
    leaves_part =
        let h = either rest.commit rest.log rest.carries in
        leaves_more disks.images disks.since disks.moment p.disk q.disk _ (IsImageOf past q.view p.flusher.count) (either_image h) h.leaves

    -- the disk has what was there before the table, as it had
    past_on : IsSome (disks.content q.disk) → HasPast disks.content q past
    past_on still = on (disks.content q.disk) refl still
      where
        on : (o : Option (List ℕ)) → disks.content q.disk ≡ o → IsSome o → HasPast disks.content q past
        on None is some = absurd cc
        on (Some i) is some =
            let r = rest.carries.rest in
            let t = s.has.table in
            let was = read p.disk t.image t.is in
            let g = (either rest.commit rest.log rest.carries).goes.now i (read q.disk i is) in
            let held = stays_carried p.view.about p.cold (disks.content p.disk) (disks.content q.disk) t rest.commit r.body r.lines i
            (rests_commit p.flusher.slot r.body r.lines t.image r.slot_is (r.rests t.image was)) r.committed.is.told r.committed.size
            g is in
            let moved : (x : CarriesTable (disks.content q.disk) q.view.about q.cold) × (x.end.entries ≡ past.log) =
            subst (λ (k : Key). (x : CarriesTable (disks.content q.disk) k q.cold) × (x.end.entries ≡ past.log)) (sym reads.learns.about)
            (subst (λ (z : Cold).
            (x : CarriesTable (disks.content q.disk) p.view.about z) × (x.end.entries ≡ past.log)) (sym cold)
            (held.0, ap (λ (e : Reached). e.entries) held.1 ∙ s.has.entries)) in
            record { table = moved.0; entries = moved.1 }

  -- where the disk refused it, no checkpoint follows
  pub here_faulted : q.flusher ≡ record p.flusher { shut = true } → GoesOnHere disks p q
  here_faulted shut = record {
    learns = reads.learns;
    told_before = before;
    rises = (let count = ap (λ (f : Flusher). f.count) shut in omega arith);
    sound = λ past s still. record {
      fits = fits_later past p.view q.view reads.learns s.fits;
      has = past_on past s still;
      rests = λ kept. absurd (let is = ap (λ (f : Flusher). f.shut) shut in cc);
      now = λ c here. subst (λ (f : Flusher). IsImageOf past q.view f.count c) (sym shut) ((leaves_part past s).now c here);
    };
    crash = λ past s still. leaves_part past s;
  }

  -- where it is done, the last commit has all that was settled
  module _ (n : ℕ) (settled : p.view.learned.settled ≤ n)
      (done : HasCommitted (disks.images p.disk) (disks.images q.disk) p.flusher q.flusher p.view q.view p.shape p.rows n) where
    rises : p.flusher.count ≤ q.flusher.count
    rises = (let upto = may.2.settled in let count = done.count in omega arith)

    sound_committed : (past : Whole) → Sound disks p past → IsSome (disks.content q.disk) → Sound disks q past
    sound_committed past s still =
        let r = rest past s in
        let size = past_size past s in
        let d = done.carries r.commit r.log r.carries in
        let next : Commit = commit_of q.flusher p.shape p.rows in
        let log : List Entry = r.log ++ d.0 in
        let base = s.fits.base in
        let about = ap (λ (k : Key). k.number) reads.learns.about in
        let here : q.view.about.number ≡ length past.log = omega arith in
        let begins : take (length past.log) log ≡ past.log = take-append-le (length past.log) r.log d.0 size.0 ∙ r.begins in
        let told : AreKnown q.view (length past.log) (drop (length past.log) log) =
        subst (λ (k : ℕ). AreKnown q.view k (drop k log)) here d.2.told in
        let count = done.count in
        let counted = done.counted in
        record {
          fits = fits_later past p.view q.view reads.learns s.fits;
          has = past_on past s still;
          rests = λ kept. record {
            commit = next;
            log = log;
            carries = subst (λ (z : List CatRow). CarriesLog (disks.images q.disk) q.flusher q.view q.shape z next log) (sym rows)
                (subst (λ (z : Shape). CarriesLog (disks.images q.disk) q.flusher q.view z p.rows next log) (sym shape) d.2);
            begins = begins;
            counted = omega arith;
          };
          now = λ c there. record {
            commit = next;
            log = log;
            stands = rest_stands (disks.images q.disk) q.flusher next log d.2.rest c there;
            many = (let all = d.1 in omega arith);
            known = known_of past q.view log begins told;
          };
        }

    pub here_committed : GoesOnHere disks p q
    here_committed = record {
      learns = reads.learns;
      told_before = before;
      rises = rises;
      sound = sound_committed;
      crash = λ past s still. leaves_part past s;
    }

  -- out of memory leaves the disk and the last commit
  pub stays_same : q.disk ≡ p.disk → q.flusher ≡ p.flusher → StoreStays disks p q
  stays_same disk flusher = record {
    learns = reads.learns;
    rows_on = λ n old le grown. subst (HaveGrown n old) (sym rows) grown;
    flusher = flusher;
    shape = shape;
    content_is = subst (λ (d : D). StillReads (disks.content p.disk) (disks.content d)) (sym disk) (still_self (disks.content p.disk));
    crash = subst (λ (d : D). LeavesOnly disks.images disks.since disks.moment p.disk d (disks.images p.disk)) (sym disk)
        (leaves_none disks.images disks.since disks.moment p.disk (disks.images p.disk) (λ i here. here));
    table = λ t. table_same (disks.content p.disk) (disks.content q.disk) p.view.about p.cold q.cold (ap disks.content disk) cold t;
  }

  -- however it ends, the store goes on
  pub here_checkpoint : (r : Result ℕ FlushRefusal) → IfOk r (HasSettled p.view q.view)
      → IfOk r (HasCommitted (disks.images p.disk) (disks.images q.disk) p.flusher q.flusher p.view q.view p.shape p.rows)
      → (IsErrOf r DiskFault → q.flusher ≡ record p.flusher { shut = true })
      → (IsErrOf r OutOfMemory → (q.disk ≡ p.disk) × (q.flusher ≡ p.flusher)) → GoesOnHere disks p q
  here_checkpoint (Ok n) settled done shut memory = here_committed n settled.rises done
  here_checkpoint (Err DiskFault) settled done shut memory = here_faulted (shut refl)
  here_checkpoint (Err OutOfMemory) settled done shut memory =
      (let same = memory refl in here_stays disks p q (stays_same same.0 same.1))

  -- and unless the disk failed, another checkpoint may follow
  pub again_checkpoint : (r : Result ℕ FlushRefusal) → p.flusher.count ≤ p.view.learned.count
      → IfOk r (HasCommitted (disks.images p.disk) (disks.images q.disk) p.flusher q.flusher p.view q.view p.shape p.rows)
      → (IsErrOf r OutOfMemory → (q.disk ≡ p.disk) × (q.flusher ≡ p.flusher)) → (IsErrOf r DiskFault → ⊥) → MayGoOn disks.images q
  again_checkpoint (Ok n) counted done memory unbroken = record {
    live = done.live;
    may = may_again disks.images p q n shape rows may done;
    counted = (let count = done.count in let most = done.counted in omega arith);
  }
  again_checkpoint (Err DiskFault) counted done memory unbroken = absurd (unbroken refl)
  again_checkpoint (Err OutOfMemory) counted done memory unbroken =
      (let same = memory refl in may_stays disks p q (stays_same same.0 same.1)
      (record { live = live; may = may; counted = counted }))

  -- ---- the rows of commits

  -- those of the last commit were among these, where the disk is told
  old_among : (was : List (List CatRow)) → HaveRowsOf (disks.images p.disk) was → IsSome (disks.content p.disk) → Among may.0.rows was
  old_among was have some = by (disks.content p.disk) refl some
    where
      by : (o : Option (List ℕ)) → disks.content p.disk ≡ o → IsSome o → Among may.0.rows was
      by None is some = absurd cc
      by (Some i) is some =
          let here = read p.disk i is in
          let h = have i here in
          let stands = rest_stands (disks.images p.disk) p.flusher may.0 may.1 may.2.rest i here in
          subst (λ (c : Commit). Among c.rows was) (one_stands i h.commit may.0 h.log may.1 h.stands stands).0 h.among

  -- so are those that a crash leaves, or they are the rows that are committed
  either_among : (was : List (List CatRow)) → HaveRowsOf (disks.images p.disk) was → IsSome (disks.content p.disk)
      → (h : LeavesEither disks.images disks.since disks.moment p.disk q.disk q.view p.rows may.0 may.1 may.2.rest.lines) → (i : List ℕ)
      → Stands may.0 i may.1 ⊎ Stands h.next i (may.1 ++ h.more) → HasRowsOf (was ++ p.rows ∷ []) i
  either_among was have some h i (inl stands) = record {
    commit = may.0;
    log = may.1;
    stands = stands;
    among = among_left may.0.rows was (p.rows ∷ []) (old_among was have some);
  }
  either_among was have some h i (inr stands) = record {
    commit = h.next;
    log = may.1 ++ h.more;
    stands = stands;
    among = among_right h.next.rows was (p.rows ∷ []) (inl (sym h.rows_are));
  }

  either_rows : IsSome (disks.content q.disk) → (was : List (List CatRow)) → HaveRowsOf (disks.images p.disk) was
      → LeavesOnly disks.images disks.since disks.moment p.disk q.disk (HasRowsOf (was ++ p.rows ∷ []))
  either_rows still was have =
      let h = either may.0 may.1 may.2 in
      leaves_more disks.images disks.since disks.moment p.disk q.disk _ (HasRowsOf (was ++ p.rows ∷ []))
      (either_among was have (before still) h) h.leaves

  -- where a checkpoint is done, these alone
  pub rows_checkpoint : (r : Result ℕ FlushRefusal)
      → IfOk r (λ n. (i : List ℕ) → disks.images q.disk i → HasRowsOf (p.rows ∷ []) i)
      → LeavesRows disks p.disk q.disk (by_checkpoint r p.rows) (p.rows ∷ [])
  rows_checkpoint (Ok n) all = record {
    told_before = before;
    now = λ still was have. all;
    since = either_rows;
  }
  rows_checkpoint (Err e) all = record {
    told_before = before;
    now = λ still was have. (either_rows still was have).now;
    since = either_rows;
  }
