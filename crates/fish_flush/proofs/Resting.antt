-- What every image stands for before a body is put: that of the last commit.
use Rattle.std.proofs.Common.{◌≡◌, ℕ, ◌+◌, ◌-◌, ◌*◌, ◌≤◌, inl, List, []}
use Rattle.std.proofs.Common.{length, drop}
use Rattle.std.proofs.Common.{refl, ap, sym, ◌∙◌, subst, arith}
use mathlib.Core.Option.{some-ne-none}
use Rattle.fish_catalog.specs.declared.commit.Commit.{Commit}
use Rattle.fish_catalog.specs.declared.entry.Entry.{Entry}
use Rattle.fish_catalog.specs.declared.row.CatRow.{CatRow}
use Rattle.fish_disk.specs.Crash.{LeavesOnly, TornFrom}
use Rattle.fish_disk.proofs.Moments.{leaves_more, leaves_none}
use Rattle.fish_flush.specs.Carrying.{LeavesEither}
use Rattle.fish_flush.specs.Kept.{IsAtRest}
use Rattle.fish_flush.specs.declared.flusher.Flusher.{Flusher}
use Rattle.fish_flush.proofs.Images.{resting_gates, rests_lines}
use Rattle.fish_image.specs.Stands.{Stands}
use Rattle.fish_rule.specs.declared.view.View.{View}
use Rattle.fish_slots.proofs.Commits.{rests_commit}
use Rattle.fish_slots.specs.Commits.{HasCommit, SlotRests}
use Rattle.fish_slots.specs.Offsets.{lines_at}
use Rattle.fish_slots.specs.Slots.{GatesAreSynced, line_count}
use Rattle.fish_flush.proofs.Committed.{body_lines, still_goes}

-- at rest every image stands for the log
pub rest_stands : (images : List ℕ → Type 0) (f : Flusher) (c : Commit) (log : List Entry) → IsAtRest images f c log
    → (i : List ℕ) → images i → Stands c i log
rest_stands images f c log at i here = record {
  body = at.body;
  lines = at.lines;
  commit = rests_commit f.slot at.body at.lines i at.slot_is (at.rests i here);
  is = at.committed.is;
}

-- and the gates are synced
pub rest_gates : (images : List ℕ → Type 0) (f : Flusher) (c : Commit) (log : List Entry) → IsAtRest images f c log
    → GatesAreSynced images images
rest_gates images f c log at =
    let le = at.slot_is in
    let other : f.slot ≡ 1 - (1 - f.slot) = omega arith in
    resting_gates images (1 - f.slot) at.body at.lines (omega arith)
    (λ i here. subst (λ (t : ℕ). SlotRests t at.body at.lines i) other (at.rests i here))

-- where nothing was written, every image stands for the log that it stood for
pub nothing_leaves : {D : Type 0} (im : D → List ℕ → Type 0) (since : D → ℕ → List ℕ → Type 0) (moment : D → ℕ) (x : D) (f : Flusher)
    (u : View) (rows : List CatRow) (c : Commit) (old : List Entry) → (at : IsAtRest (im x) f c old)
    → LeavesEither im since moment x x u rows c old at.lines
nothing_leaves im since moment x f u rows c old at = record {
  more = [];
  next = record c { rows = rows };
  told = λ i e there. absurd (some-ne-none e (sym there));
  rows_are = refl;
  count = omega arith;
  leaves = leaves_none im since moment x _ (λ i here. inl (rest_stands (im x) f c old at i here));
  goes = leaves_none im since moment x _ (λ i here. still_goes f c old (im x) at i
      (rests_commit f.slot at.body at.lines i at.slot_is (at.rests i here)));
  was = λ i here. (i, here);
}

-- where lines were written after those that it counts, and perhaps torn, every image rests as it did
pub torn_rests : {D : Type 0} (im : D → List ℕ → Type 0) (since : D → ℕ → List ℕ → Type 0) (moment : D → ℕ) (x y : D) (f : Flusher)
    (c : Commit) (old : List Entry) (n : ℕ) (at : IsAtRest (im x) f c old)
    → LeavesOnly im since moment x y (TornFrom (im x) (lines_at + 32 * f.line) n)
    → (i : List ℕ) → TornFrom (im x) (lines_at + 32 * f.line) n i → SlotRests f.slot at.body at.lines i
torn_rests im since moment x y f c old n at leaves i from =
    let committed = at.committed in
    let before : line_count at.body ≡ f.line = body_lines c at.body committed.is.told ∙ committed.line in
    rests_lines f.slot f.line n at.body at.lines from.0 i at.slot_is (omega arith) from.2 (at.rests from.0 from.1)

-- so every image stands for the log that it stood for
pub torn_leaves : {D : Type 0} (im : D → List ℕ → Type 0) (since : D → ℕ → List ℕ → Type 0) (moment : D → ℕ) (x y : D) (f : Flusher)
    (u : View) (rows : List CatRow) (c : Commit) (old : List Entry) (n : ℕ) → (at : IsAtRest (im x) f c old)
    → LeavesOnly im since moment x y (TornFrom (im x) (lines_at + 32 * f.line) n)
    → LeavesEither im since moment x y u rows c old at.lines
torn_leaves im since moment x y f u rows c old n at leaves =
    let has : (i : List ℕ) → TornFrom (im x) (lines_at + 32 * f.line) n i → HasCommit at.body at.lines i =
    λ i from. rests_commit f.slot at.body at.lines i at.slot_is (torn_rests im since moment x y f c old n at leaves i from) in
    record {
      more = [];
      next = record c { rows = rows };
      told = λ i e there. absurd (some-ne-none e (sym there));
      rows_are = refl;
      count = omega arith;
      leaves = leaves_more im since moment x y (TornFrom (im x) (lines_at + 32 * f.line) n) _
          (λ i from. inl (record { body = at.body; lines = at.lines; commit = has i from; is = at.committed.is })) leaves;
      goes = leaves_more im since moment x y (TornFrom (im x) (lines_at + 32 * f.line) n) _
          (λ i from. still_goes f c old (im x) at i (has i from)) leaves;
      was = λ i here. (let from = leaves.now i here in (from.0, from.1));
    }

-- and the gates are synced
pub torn_gates : {D : Type 0} (im : D → List ℕ → Type 0) (since : D → ℕ → List ℕ → Type 0) (moment : D → ℕ) (x y : D) (f : Flusher)
    (c : Commit) (old : List Entry) (n : ℕ) → IsAtRest (im x) f c old
    → LeavesOnly im since moment x y (TornFrom (im x) (lines_at + 32 * f.line) n) → GatesAreSynced (im y) (im y)
torn_gates im since moment x y f c old n at leaves =
    let le = at.slot_is in
    let other : f.slot ≡ 1 - (1 - f.slot) = omega arith in
    resting_gates (im y) (1 - f.slot) at.body at.lines (omega arith)
    (λ i here. subst (λ (t : ℕ). SlotRests t at.body at.lines i) other
    (torn_rests im since moment x y f c old n at leaves i (leaves.now i here)))

-- an image that has all lines of a body is long enough for them
pub long_rests : (slot : ℕ) (b w i : List ℕ) (m n : ℕ) → SlotRests slot b w i → length w ≡ 32 * n → lines_at + m ≤ length i
    → lines_at + 32 * n ≤ length i
long_rests slot b w i m n h size long =
    let same = ap (λ (l : List ℕ). length l) h.lines_are in
    let taken = Rattle.std.proofs.lemmas.List.length-take (32 * line_count b) (drop lines_at i) in
    let left = Rattle.std.proofs.Common.length-drop lines_at i in
    omega arith
