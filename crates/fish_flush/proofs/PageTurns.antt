-- A region more is copied, and where it ends a page, or is the last, all that is pending is written.
use Rattle.std.proofs.Common.{◌≡◌, ◌≢◌, ℕ, ◌+◌, ◌-◌, ◌*◌, ◌/◌, ◌<◌, ◌≤◌, ◌⊎◌, inl, inr, List, [], ◌++◌, length}
use Rattle.std.proofs.Common.{sym, ap, ◌∙◌, subst, arith}
use Rattle.std.specs.Prelude.{Option, IfSome}
use Rattle.fish_disk.specs.Content.{HasWritten}
use Rattle.fish_disk.specs.Crash.{LeavesOnly, TornFrom}
use Rattle.fish_flush.proofs.FilledPages.{AreFilled, filled_more, filled_none, filled_written, pending_size}
use Rattle.fish_flush.proofs.PageWrites.{AreWritten, written_more, written_none}
use Rattle.fish_flush.specs.within.Filling.{HasAdded, IsBatchReady, pending}
use Rattle.fish_flush.specs.declared.batch.Batch.{Batch}
use Rattle.fish_layout.specs.Pages.{page_of}
use Rattle.fish_rule.specs.Logs.{Extends}
use Rattle.fish_rule.specs.declared.view.View.{View}
use Rattle.fish_slots.specs.Offsets.{lines_at}

module _ {D : Type 0} (content : D → Option (List ℕ)) (images : D → List ℕ → Type 0) (since : D → ℕ → List ℕ → Type 0)
    (moment faults : D → ℕ) (x : D) (v : View) (end from to : ℕ) (a : Batch) where
  -- the regions below a number were copied, and those of full pages are written, by one call each; at the end all are
  pub record IsTurn (u : View) (n : ℕ) (b : Batch) (y : D) : Type 0 where
    pub lines : List ℕ
    pub filled : AreFilled v u end from to n a b lines
    pub on_disk : AreWritten content images since moment faults x y a.line b.written lines
    pub page : page_of b.written ≡ page_of b.line
    pub ended : n ≡ to → b.written ≡ b.line
    pub fewer : n < to → moment y ≤ moment x + (b.written / 32768 - a.line / 32768)

  -- none yet
  pub turn_none : IsBatchReady v from to a → a.line ≤ end → IfSome (content x) (λ c. lines_at + 32 * a.line ≤ length c) → IsTurn v from a x
  turn_none ready within long =
      let none = ready.none in
      record {
        lines = [];
        filled = filled_none v end from to a ready within;
        on_disk = subst (λ (k : ℕ). AreWritten content images since moment faults x x a.line k []) (sym none)
            (written_none content images since moment faults x a.line long);
        page = ap page_of none;
        ended = λ same. none;
        fewer = λ less. omega arith;
      }

  module _ (u w : View) (n : ℕ) (b d : Batch) (y : D) (first : Extends v u) (on : Extends u w) (less : n < to)
      (one : HasAdded u w end n b d) (turn : IsTurn u n b y) where
    -- what is on the disk, by the new batch
    same_disk : AreWritten content images since moment faults x y a.line d.written turn.lines
    same_disk = subst (λ (k : ℕ). AreWritten content images since moment faults x y a.line k turn.lines) (sym one.written) turn.on_disk

    -- the page isn't full, and more is to come
    pub turn_more : d.line / 32768 ≤ d.written / 32768 → n + 1 ≢ to → IsTurn w (n + 1) d y
    turn_more part more =
        let near = turn.filled.near in
        let later = one.later in
        let written = one.written in
        let fewer = turn.fewer less in
        record {
          lines = turn.lines;
          filled = filled_more v u w end from to n a b d turn.lines first on turn.filled one;
          on_disk = same_disk;
          page = omega arith;
          ended = λ same. absurd (more same);
          fewer = λ next. omega arith;
        }

    -- it is, or this was the last: all is written
    pub turn_written : (e : Batch) (z : D) → (d.written / 32768 < d.line / 32768) ⊎ (n + 1 ≡ to)
        → e ≡ record d { written = e.written } → e.written ≡ d.line
        → HasWritten (content y) (content z) (lines_at + 32 * d.written) (pending d)
        → LeavesOnly images since moment y z (TornFrom (images y) (lines_at + 32 * d.written) (32 * (d.line - d.written)))
        → moment z ≤ moment y + 1 → faults y ≤ faults z → IsTurn w (n + 1) e z
    turn_written e z why kept written put crash called faults_rise =
        let filled = filled_more v u w end from to n a b d turn.lines first on turn.filled one in
        let upto = filled.upto in
        let near = turn.filled.near in
        let size = filled.size in
        let later = one.later in
        let same = one.written in
        let fewer = turn.fewer less in
        let is : e ≡ record d { written = d.line } = kept ∙ ap (λ (k : ℕ). record d { written = k }) written in
        let line : e.line ≡ d.line = ap (λ (k : Batch). k.line) kept in
        record {
          lines = turn.lines ++ pending d;
          filled = filled_written v w end from to (n + 1) a d e turn.lines is filled;
          on_disk = subst (λ (k : ℕ). AreWritten content images since moment faults x z a.line k (turn.lines ++ pending d)) (sym written)
              (written_more content images since moment faults x y z a.line d.written d.line turn.lines (pending d) upto (omega arith) size
              (pending_size d one.room one.fits) same_disk put crash (omega arith) faults_rise);
          page = ap page_of (written ∙ sym line);
          ended = λ last. written ∙ sym line;
          fewer = λ next. by next why;
        }
      where
        by : n + 1 < to → (d.written / 32768 < d.line / 32768) ⊎ (n + 1 ≡ to)
            → moment z ≤ moment x + (e.written / 32768 - a.line / 32768)
        by next (inl full) =
            let upto = turn.filled.upto in
            let same = one.written in
            let fewer = turn.fewer less in
            let at : e.written ≡ d.line = written in
            omega arith
        by next (inr last) = absurd (omega arith)
