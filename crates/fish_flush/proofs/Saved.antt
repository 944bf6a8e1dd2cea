-- A draft's lines are written, and then its body: what is left of the disk at each moment.
use Rattle.std.proofs.Common.{◌≡◌, ℕ, ◌+◌, ◌-◌, ◌*◌, ◌≤◌, inl, List, ◌++◌, length, subst, arith}
use Rattle.std.specs.Prelude.{Option, Some}
use Rattle.fish_catalog.specs.declared.commit.Commit.{Commit}
use Rattle.fish_catalog.specs.declared.entry.Entry.{Entry}
use Rattle.fish_catalog.specs.declared.row.CatRow.{CatRow}
use Rattle.fish_disk.specs.Crash.{LeavesOnly, TornFrom}
use Rattle.fish_disk.proofs.Moments.{leaves_more, leaves_then}
use Rattle.fish_flush.proofs.Committed.{draft_carries, draft_grows, draft_leaves, draft_more}
use Rattle.fish_flush.proofs.Resting.{long_rests, torn_rests}
use Rattle.fish_flush.proofs.Drafted.{drafted}
use Rattle.fish_flush.proofs.Images.{grows_on}
use Rattle.fish_flush.proofs.PageWrites.{put_is, told_in}
use Rattle.fish_flush.specs.Going.{ComesFrom}
use Rattle.fish_flush.specs.Carrying.{CarriesLog, LeavesEither}
use Rattle.fish_flush.specs.within.Carrying.{IsDrafted, MaySave, flusher_after}
use Rattle.fish_flush.specs.within.Filling.{HasCopied}
use Rattle.fish_flush.specs.Kept.{commit_of}
use Rattle.fish_flush.specs.within.Writing.{EitherCommit, GrowsBy, HasPut}
use Rattle.fish_flush.specs.declared.batch.Batch.{Batch}
use Rattle.fish_flush.specs.declared.drafting.Draft.{Draft}
use Rattle.fish_flush.specs.declared.flusher.Flusher.{Flusher}
use Rattle.fish_rule.specs.Logs.{Extends}
use Rattle.fish_rule.specs.Table.{IsOfMoment}
use Rattle.fish_rule.specs.declared.table.Shape.{Shape}
use Rattle.fish_rule.specs.declared.view.View.{View}
use Rattle.fish_slots.proofs.Commits.{rests_commit}
use Rattle.fish_slots.specs.Commits.{SlotRests}
use Rattle.fish_slots.specs.Offsets.{lines_at}

module _ {D : Type 0} (content : D → Option (List ℕ)) (images : D → List ℕ → Type 0) (since : D → ℕ → List ℕ → Type 0)
    (moment : D → ℕ) (as_read : (z : D) (c : List ℕ) → content z ≡ Some c → images z c) (x y : D) (m u : View) (end : ℕ) (s : Shape)
    (f : Flusher) (d : Draft) (b : Batch) (lines : List ℕ) (n : ℕ) (on : Extends m u) (stands : IsOfMoment u)
    (copied : HasCopied m u f.count d.count d.batch b lines) (put : HasPut (content x) (content y) (lines_at + 32 * d.batch.line) lines)
    (crash : LeavesOnly images since moment x y (TornFrom (images x) (lines_at + 32 * d.batch.line) n))
    (rows : List CatRow) (c : Commit) (old : List Entry) (may : MaySave (images x) m end s f d rows c old) where
  -- the draft with its lines is a commit
  saved_draft : IsDrafted u s f rows d.count (record d { batch = b }) lines
  saved_draft = drafted m u end s f rows d.count d b lines may.may may.drafts on stands copied

  -- the lines were written after those of the last commit
  saved_torn : LeavesOnly images since moment x y (TornFrom (images x) (lines_at + 32 * f.line) n)
  saved_torn = subst (λ (k : ℕ). LeavesOnly images since moment x y (TornFrom (images x) (lines_at + 32 * k) n))
      may.drafts.begins.line crash

  -- so a body that counts them may be put
  pub saved_grows : GrowsBy content images y (1 - f.slot) f.line may.rest.body may.rest.lines d.body lines
  saved_grows =
      let slot = may.rest.slot_is in
      record {
        grows = grows_on (images x) (images y) (1 - f.slot) f.line n may.rest.body may.rest.lines d.body lines (omega arith)
            saved_torn.now
            (draft_grows (images x) f m u s rows d.count (record d { batch = b }) lines saved_draft c old may.rest may.bits may.grown);
        put = put_is (content x) (content y) f.line lines
            (subst (λ (k : ℕ). HasPut (content x) (content y) (lines_at + 32 * k) lines) may.drafts.begins.line put)
            (told_in (content x) (λ e. lines_at + 32 * f.line ≤ length e) (λ e is. may.rest.long e (as_read x e is)));
      }

  -- whatever a crash leaves then, one of the two commits is there
  pub saved_leaves : (z : D)
      → LeavesOnly images since moment y z (EitherCommit may.rest.body may.rest.lines d.body (may.rest.lines ++ lines))
      → ComesFrom (images y) (images z) → LeavesEither images since moment x z u rows c old may.rest.lines
  saved_leaves z leaves was =
      let P : List ℕ → Type 0 = EitherCommit may.rest.body may.rest.lines d.body (may.rest.lines ++ lines) in
      let first = leaves_more images since moment x y (TornFrom (images x) (lines_at + 32 * f.line) n) P
      (λ i from. inl (rests_commit f.slot may.rest.body may.rest.lines i may.rest.slot_is
      (torn_rests images since moment x y f c old n may.rest saved_torn i from))) saved_torn in
      draft_leaves (images x) f m u s rows d.count (record d { batch = b }) lines saved_draft c old may.rest may.bits may.grown
      images since moment x z (leaves_then images since moment x y z P first leaves)
      (λ i here. (let mid = was i here in let from = saved_torn.now mid.0 mid.1 in (from.0, from.1)))

  -- and once the body counts alone, the file carries the log with its entries
  pub saved_carries : (z : D) → ((i : List ℕ) → images z i → SlotRests (1 - f.slot) d.body (may.rest.lines ++ lines) i)
      → ((k : ℕ) → ((i : List ℕ) → images y i → k ≤ length i) → (i : List ℕ) → images z i → k ≤ length i)
      → (more : List Entry) × (length (old ++ more) ≡ d.count)
      × CarriesLog (images z) (flusher_after f (record d { batch = b })) u s rows
      (commit_of (flusher_after f (record d { batch = b })) s rows)
      (old ++ more)
  saved_carries z rests longer =
      let all = draft_more (images x) f m u s rows d.count (record d { batch = b }) lines saved_draft c old may.rest may.bits may.grown in
      let whole = all.3.size in
      let settled = may.settled in
      let more = on.learns.settled in
      let long : (i : List ℕ) → images z i → lines_at + 32 * d.line ≤ length i =
      λ i here. long_rests (1 - f.slot) d.body (may.rest.lines ++ lines) i (32 * f.line) d.line (rests i here) whole
      (longer (lines_at + 32 * f.line) (λ j there.
      let from = saved_torn.now j there in
      let before = may.rest.long from.0 from.1 in
      let grown = from.2.no_shorter in
      omega arith) i here) in
      let carried = draft_carries (images x) f m u s rows d.count (record d { batch = b }) lines saved_draft c old may.rest may.bits
      may.grown (images z) on.learns may.may.from (omega arith) may.told rests long in
      (all.0, carried.0, carried.1)
