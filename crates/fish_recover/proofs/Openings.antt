-- What is open stands for the log for which the disk stood.
use Rattle.std.proofs.Common.{◌≡◌, ℕ, ◌≤◌, List, [], ◌∷◌, Bool, false, true, length, refl, ap, sym, subst, ◌∙◌, arith}
use Rattle.std.proofs.lemmas.Option.{same_Some}
use Rattle.std.specs.Prelude.{Option, Some, None, IfErr, IfSome, IsSome, Result}
use Rattle.fish_catalog.specs.declared.commit.Commit.{Commit}
use Rattle.fish_catalog.specs.declared.entry.Entry.{Entry}
use Rattle.fish_disk.proofs.Moments.{leaves_more, leaves_then}
use Rattle.fish_disk.proofs.Regions.{still_told, told_at}
use Rattle.fish_disk.specs.Content.{StillReads}
use Rattle.fish_disk.specs.Crash.{LeavesOnly}
use Rattle.fish_flush.specs.Kept.{first_commit}
use Rattle.fish_image.specs.Stands.{Stands}
use Rattle.fish_slots.proofs.Commits.{one_commit}
use Rattle.fish_slots.specs.Commits.{SlotCounts, HasCommit}
use Rattle.fish_recover.proofs.Closings.{body_long}
use Rattle.fish_recover.proofs.Keepings.{KeptIn, kept_stands, stands_whole}
use Rattle.fish_recover.proofs.Refusals.{err_then}
use Rattle.fish_recover.specs.Opening.{IsImageFound, IsOfStore}
use Rattle.fish_recover.specs.within.Resting.{AreStored}
use Rattle.fish_recover.specs.Stores.{HasOpened, IsImageAsked, IsOpened, asked_shape}
use Rattle.fish_recover.specs.declared.finding.Found.{Found}
use Rattle.fish_recover.specs.declared.opened.Opened.{Opened}
use Rattle.fish_recover.specs.declared.refusal.Asked.{Asked}
use Rattle.fish_recover.specs.declared.refusal.OpenRefusal.{OpenRefusal}

-- ---- what is told

-- what is told at the end was told before
pub still_before : (old new : Option (List ℕ)) → StillReads old new → IfSome new (λ _. (i : List ℕ) × (old ≡ Some i))
still_before old None still = tt
still_before old (Some i) still = (i, still)

-- so it is by images: those of the end come from images of before
pub told_before : (new x : Option (List ℕ)) (after before : List ℕ → Type 0) → ((i : List ℕ) → new ≡ Some i → after i)
    → ((i : List ℕ) → after i → (d : List ℕ) × before d) → ((d : List ℕ) → before d → x ≡ Some d)
    → IfSome new (λ _. (i : List ℕ) × (x ≡ Some i))
told_before None x after before read from synced = tt
told_before (Some i) x after before read from synced = (let d = from i (read i refl) in (d.0, synced d.0 d.1))

-- and earlier
told_earlier : (old x new : Option (List ℕ)) → StillReads old x → IfSome new (λ _. (i : List ℕ) × (x ≡ Some i))
    → IfSome new (λ _. (i : List ℕ) × (old ≡ Some i))
told_earlier old x None still told = tt
told_earlier old x (Some i) still told = (told.0, told_at (λ d. old ≡ Some d) x told.0 told.1 still)

-- and through both
pub told_through : (old x new : Option (List ℕ)) (after before : List ℕ → Type 0) → StillReads old x
    → ((i : List ℕ) → new ≡ Some i → after i) → ((i : List ℕ) → after i → (d : List ℕ) × before d)
    → ((d : List ℕ) → before d → x ≡ Some d) → IfSome new (λ _. (i : List ℕ) × (old ≡ Some i))
told_through old x new after before still read from synced =
    told_earlier old x new still (told_before new x after before read from synced)

-- images of a disk that was synced are what is read, as long as that is told
pub still_synced : (old x : Option (List ℕ)) (before after : List ℕ → Type 0) → StillReads old x
    → ((i : List ℕ) → before i → old ≡ Some i) → ((i : List ℕ) → after i → before i) → ((i : List ℕ) → after i → IsSome x)
    → (i : List ℕ) → after i → x ≡ Some i
still_synced old x before after still synced fewer told i here =
    still_told old x i still (told i here) (synced i (fewer i here))

-- what is read later is what was read
pub still_one : (old x : Option (List ℕ)) (i e : List ℕ) → StillReads old x → old ≡ Some i → x ≡ Some e → e ≡ i
still_one old x i e still was is = same_Some e i (sym (told_at (λ d. old ≡ Some d) x e is still) ∙ was)

-- ---- what was found

-- what was found stood for the log
pub was_stored : (old x new : Option (List ℕ)) (asked : Asked) (f : Found) (k : KeptIn x f) (made : Bool) → made ≡ false
    → IfSome x (λ i. IsImageFound i asked f) → StillReads old x → IfSome new (λ _. (i : List ℕ) × (x ≡ Some i))
    → IfSome new (λ _. (i : List ℕ) × (old ≡ Some i) × IsImageAsked asked made f.commit k.held.end.entries i)
was_stored old x None asked f k made is found still told = tt
was_stored old x (Some j) asked f k made is found still told =
    let i : List ℕ = told.0 in
    let here = told_at (λ d. IsImageFound d asked f) x i told.1 found in (
      i,
      told_at (λ d. old ≡ Some d) x i told.1 still,
      subst (λ (b : Bool). IsImageAsked asked b f.commit k.held.end.entries i) (sym is) (kept_stands x f k i told.1, here.shape),
    )

-- an image that stands for a log isn't empty
pub not_empty : (c : Commit) (i : List ℕ) (log : List Entry) → Stands c i log → length i ≡ 0 → ⊥
not_empty c i log h none =
    let whole = stands_whole c i log h in
    let long = body_long h.commit.slot h.body i whole.body_size h.commit.counts.body_is in
    omega arith

-- what was found of an image that stands for a log is its commit
stands_stored : (x : Option (List ℕ)) (asked : Asked) (f : Found) (images : List ℕ → Type 0) (i : List ℕ) (c : Commit)
    (log : List Entry) (h : Stands c i log) → IfSome x (λ e. IsImageFound e asked f) → ((e : List ℕ) → images e → x ≡ Some e)
    → ((e : List ℕ) → images e → e ≡ i) → AreStored images f.slot f.both h.body h.lines
stands_stored x asked f images i c log h found synced all = record {
  whole = stands_whole c i log h;
  counts = λ e here.
      let at = told_at (λ d. IsImageFound d asked f) x e (synced e here) found in
      let has = subst (HasCommit h.body h.lines) (sym (all e here)) h.commit in
      let same = one_commit at.body at.lines h.body h.lines e at.commit has in
      subst (λ (s : ℕ). SlotCounts s h.body h.lines e) at.slot
      (subst (λ (w : List ℕ). SlotCounts at.commit.slot h.body w e) same.1
      (subst (λ (b : List ℕ). SlotCounts at.commit.slot b at.lines e) same.0 at.commit.counts));
  other = λ e here. (told_at (λ d. IsImageFound d asked f) x e (synced e here) found).older;
}

-- another image with that commit stands for the log
pub has_stands : (i : List ℕ) (c : Commit) (log : List Entry) (h : Stands c i log) (e : List ℕ) → HasCommit h.body h.lines e
    → Stands c e log
has_stands i c log h e has = record { body = h.body; lines = h.lines; commit = has; is = h.is }

module _ {D : Type 0} (images : D → List ℕ → Type 0) (since : D → ℕ → List ℕ → Type 0) (moment : D → ℕ) (i : List ℕ) (c : Commit)
    (log : List Entry) (h : Stands c i log) where
  -- what a reading leaves of images that are one
  pub read_leaves : (old new : D) → ((e : List ℕ) → images old e → e ≡ i) → LeavesOnly images since moment old new (images old)
      → LeavesOnly images since moment old new (λ e. Stands c e log)
  read_leaves old new all leaves =
      leaves_more images since moment old new (images old) (λ e. Stands c e log)
      (λ e here. subst (λ (l : List ℕ). Stands c l log) (sym (all e here)) h) leaves

  -- and what a step leaves that keeps their commit
  kept_leaves : (old mid new : D) → LeavesOnly images since moment old mid (λ e. Stands c e log)
      → LeavesOnly images since moment mid new (HasCommit h.body h.lines) → LeavesOnly images since moment old new (λ e. Stands c e log)
  kept_leaves old mid new first second =
      leaves_then images since moment old mid new (λ e. Stands c e log) first
      (leaves_more images since moment mid new (HasCommit h.body h.lines) (λ e. Stands c e log) (has_stands i c log h) second)

  -- so does an opening, which reads and then brings to rest what it found
  pub opening_leaves : (x : Option (List ℕ)) (asked : Asked) (f : Found) (old mid new : D) → ((e : List ℕ) → images old e → e ≡ i)
      → LeavesOnly images since moment old mid (images old) → IfSome x (λ e. IsImageFound e asked f)
      → ((e : List ℕ) → images mid e → x ≡ Some e)
      → ((b w : List ℕ) → AreStored (images mid) f.slot f.both b w → LeavesOnly images since moment mid new (HasCommit b w))
      → LeavesOnly images since moment old new (λ e. Stands c e log)
  opening_leaves x asked f old mid new all reads found synced steps =
      kept_leaves old mid new (read_leaves old mid all reads)
      (steps h.body h.lines (stands_stored x asked f (images mid) i c log h found synced (λ e here. all e (reads.now e here))))

-- what a crash left over a refusal by which the file isn't a store, it left over a step before it too
pub refusal_leaves : {T D : Type 0} (images : D → List ℕ → Type 0) (since : D → ℕ → List ℕ → Type 0) (moment : D → ℕ)
    (old mid new : D) (r : Result T OpenRefusal) → LeavesOnly images since moment old mid (images old)
    → IfErr r (λ e. IsOfStore e → LeavesOnly images since moment mid new (images mid))
    → IfErr r (λ e. IsOfStore e → LeavesOnly images since moment old new (images old))
refusal_leaves images since moment old mid new r first second =
    err_then r (λ e. IsOfStore e → LeavesOnly images since moment mid new (images mid))
    (λ e. IsOfStore e → LeavesOnly images since moment old new (images old)) second
    (λ e leaves s. leaves_then images since moment old mid new (images old) first
    (leaves_more images since moment mid new (images mid) (images old) first.now (leaves s)))

-- ---- what is open

-- what is open was there earlier
pub earlier_opened : (old x new : Option (List ℕ)) (images : List ℕ → Type 0) (asked : Asked) (o : Opened) → StillReads old x
    → HasOpened x new images asked o → HasOpened old new images asked o
earlier_opened old x new images asked o still h =
    record { commit = h.commit; log = h.log; opened = h.opened; was = by new h.was }
  where
    by : (y : Option (List ℕ)) → IfSome y (λ _. (i : List ℕ) × (x ≡ Some i) × IsImageAsked asked o.made h.commit h.log i)
        → IfSome y (λ _. (i : List ℕ) × (old ≡ Some i) × IsImageAsked asked o.made h.commit h.log i)
    by None was = tt
    by (Some j) was = (was.0, told_at (λ d. old ≡ Some d) x was.0 was.1 still, was.2)

-- a list without an element is empty
none_is : (i : List ℕ) → length i ≡ 0 → i ≡ []
none_is [] none = refl
none_is (x ∷ i) none = absurd (omega arith)

-- a store was made of nothing
pub made_opened : (old x new : Option (List ℕ)) (images : List ℕ → Type 0) (asked : Asked) (o : Opened) → StillReads old x
    → IfSome x (λ i. length i ≡ 0) → IfSome new (λ _. (i : List ℕ) × (x ≡ Some i)) → o.made ≡ true
    → IsOpened new images (first_commit (asked_shape asked)) [] o → HasOpened old new images asked o
made_opened old x new images asked o still empty told made h =
    record { commit = first_commit (asked_shape asked); log = []; opened = h; was = by new told }
  where
    by : (y : Option (List ℕ)) → IfSome y (λ _. (i : List ℕ) × (x ≡ Some i))
        → IfSome y (λ _. (i : List ℕ) × (old ≡ Some i) × IsImageAsked asked o.made (first_commit (asked_shape asked)) [] i)
    by None was = tt
    by (Some j) was = (
      was.0,
      told_at (λ d. old ≡ Some d) x was.0 was.1 still,
      subst (λ (b : Bool). IsImageAsked asked b (first_commit (asked_shape asked)) [] was.0) (sym made)
          (none_is was.0 (told_at (λ d. length d ≡ 0) x was.0 was.1 empty), refl, refl),
    )

-- an empty disk that is told isn't found to be longer
pub empty_told : (x new : Option (List ℕ)) (size : ℕ) (P : Type 0) → 1 ≤ size → IfSome x (λ i. size ≡ length i)
    → IfSome new (λ _. (i : List ℕ) × (x ≡ Some i)) → IfSome new (λ _. ((i : List ℕ) → x ≡ Some i → i ≡ []) → P)
empty_told x None size P some is told = tt
empty_told x (Some j) size P some is told = λ none.
    let same : size ≡ length told.0 = told_at (λ i. size ≡ length i) x told.0 told.1 is in
    let zero = ap (λ (l : List ℕ). length l) (none told.0 told.1) in
    absurd (omega arith)
