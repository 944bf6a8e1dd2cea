-- Regions are copied to memory, and from there to the disk.
use Rattle.std.proofs.Common.{◌≡◌, ℕ, ◌+◌, ◌-◌, ◌*◌, ◌≤◌, List, [], ◌∷◌, ◌++◌, length, take}
use Rattle.std.proofs.Common.{refl, sym, ap, ◌∙◌, subst, arith, append_assoc, append-nil, length-append}
use Rattle.std.proofs.lemmas.List.{length-take-le}
use mathlib.Core.Option.{some-ne-none}
use Rattle.fish_catalog.specs.declared.commit.Commit.{Commit}
use Rattle.fish_catalog.specs.declared.entry.Entry.{Entry}
use Rattle.fish_flush.proofs.RegionSteps.{holds_later, line_later}
use Rattle.fish_flush.proofs.Words.{words_both}
use Rattle.fish_flush.specs.within.Filling.{HasAdded, HasCopied, HasBatchRoom, IsBatchReady, buffer_bytes, pending}
use Rattle.fish_flush.specs.Reading.{IsLineAt}
use Rattle.fish_flush.specs.within.Reading.{IsReadTo}
use Rattle.fish_flush.specs.Rows.{HoldsRows}
use Rattle.fish_flush.specs.declared.batch.Batch.{Batch}
use Rattle.fish_image.specs.Stands.{words_in}
use Rattle.fish_rule.proofs.laws.Alone.{told_more}
use Rattle.fish_rule.specs.Logs.{AreKnown, Extends, KnowsAs}
use Rattle.fish_rule.specs.declared.view.View.{View}

-- regions from a number on up to another were copied: of their lines the first are these, and the others are pending
pub record AreFilled (v u : View) (end from to n : ℕ) (a b : Batch) (lines : List ℕ) : Type 0 where
  pub line : IsLineAt u n b.line
  pub end_is : IsLineAt u to b.end
  pub room : HasBatchRoom b
  pub heads : length b.heads.items ≡ length a.heads.items
  pub upto : a.line ≤ b.written
  pub near : b.written ≤ b.line
  pub within : b.line ≤ end
  pub size : length lines ≡ 32 * (b.written - a.line)
  pub fits : 32 * (b.line - b.written) ≤ buffer_bytes
  pub read : (c : Commit) (w : List ℕ) (old : List Entry) → HoldsRows v c.rows
      → IsReadTo c w old from a.line a.heads.items a.page a.starts.items
      → (more : List Entry) × AreKnown u from more × (length more + from ≡ n)
      × IsReadTo c (w ++ words_in (lines ++ pending b)) (old ++ more) n b.line b.heads.items b.page b.starts.items

-- nothing is told of no entry
none_told : (v : View) (n : ℕ) → AreKnown v n []
none_told v n i e at = absurd (some-ne-none e (sym at))

-- no line is pending where all are written
none_pending : (b : Batch) → b.written ≡ b.line → pending b ≡ []
none_pending b none = ap (λ (m : ℕ). take m b.bytes.items) (let zero_ : 32 * (b.line - b.written) ≡ 0 = omega arith in zero_)

-- none yet
pub filled_none : (v : View) (end from to : ℕ) (a : Batch) → IsBatchReady v from to a → a.line ≤ end → AreFilled v v end from to from a a []
filled_none v end from to a ready within =
    let none = ready.none in
    let no_words : words_in ([] ++ pending a) ≡ [] = ap words_in (none_pending a none) in
    record {
      line = ready.line;
      end_is = ready.end_is;
      room = ready.room;
      heads = refl;
      upto = omega arith;
      near = omega arith;
      within = within;
      size = omega arith;
      fits = omega arith;
      read = λ c w old holds read. (
        [],
        none_told v from,
        omega arith,
        subst (λ (z : List ℕ × List Entry). IsReadTo c z.0 z.1 from a.line a.heads.items a.page a.starts.items)
            (λ i. (sym (ap (λ (l : List ℕ). w ++ l) no_words ∙ append-nil w) i, sym (append-nil old) i)) read,
      );
    }

-- lines and those that are pending, as words
both_words : (a b : Batch) (lines : List ℕ) → a.line ≤ b.written → b.written ≤ b.line → length lines ≡ 32 * (b.written - a.line)
    → length (pending b) ≡ 32 * (b.line - b.written) → words_in (lines ++ pending b) ≡ words_in lines ++ words_in (pending b)
both_words a b lines upto near size whole =
    words_both (4 * (b.written - a.line)) (4 * (b.line - b.written)) lines (pending b) (omega arith) (omega arith)

-- so many lines are pending
pub pending_size : (b : Batch) → HasBatchRoom b → 32 * (b.line - b.written) ≤ buffer_bytes → length (pending b) ≡ 32 * (b.line - b.written)
pending_size b room fits = length-take-le (32 * (b.line - b.written)) b.bytes.items (let bytes = room.bytes in omega arith)

-- one region more is pending
pub filled_more : (v u x : View) (end from to n : ℕ) (a b d : Batch) (lines : List ℕ) → Extends v u → Extends u x
    → AreFilled v u end from to n a b lines → HasAdded u x end n b d → AreFilled v x end from to (n + 1) a d lines
filled_more v u x end from to n a b d lines first more h one =
    let written = one.written in
    let later = one.later in
    let upto = h.upto in
    let near = h.near in
    let size = h.size in
    let before = both_words a b lines upto near size one.whole in
    let after = both_words a d lines (omega arith) (omega arith) (omega arith) (pending_size d one.room one.fits) in
    record {
      line = one.line;
      end_is = subst (IsLineAt x to) (sym one.end_is) (line_later u x to b.end more.learns h.end_is);
      room = one.room;
      heads = one.heads ∙ h.heads;
      upto = omega arith;
      near = omega arith;
      within = one.within;
      size = omega arith;
      fits = one.fits;
      read = λ c w old holds read.
          let r = h.read c w old holds read in
          let frame = first.frame in
          let held = holds_later v u c.rows (ap (λ (z : View). z.lane) frame) (ap (λ (z : View). z.rows) frame)
          (ap (λ (z : View). z.control_words) frame) holds in
          let apart : w ++ words_in (lines ++ pending b) ≡ (w ++ words_in lines) ++ words_in (pending b) =
          ap (λ (l : List ℕ). w ++ l) before ∙ sym (append_assoc w (words_in lines) (words_in (pending b))) in
          let both : (w ++ words_in lines) ++ words_in (pending d) ≡ w ++ words_in (lines ++ pending d) =
          append_assoc w (words_in lines) (words_in (pending d)) ∙ ap (λ (l : List ℕ). w ++ l) (sym after) in
          let next = one.read c (w ++ words_in lines) (old ++ r.0) held
          (subst (λ (l : List ℕ). IsReadTo c l (old ++ r.0) n b.line b.heads.items b.page b.starts.items) apart r.3) in
          let many = r.2 in
          let place : from + length r.0 ≡ n = omega arith in
          let longer = length-append r.0 (next.0 ∷ []) in (
            r.0 ++ next.0 ∷ [],
            told_more u x from r.0 next.0 more.learns r.1 (subst (λ (z : ℕ). KnowsAs x z next.0) (sym place) next.1),
            omega arith,
            subst (λ (z : List ℕ × List Entry). IsReadTo c z.0 z.1 (n + 1) d.line d.heads.items d.page d.starts.items)
                (λ i. (both i, append_assoc old r.0 (next.0 ∷ []) i)) next.2,
          );
    }

-- what was pending is written
pub filled_written : (v u : View) (end from to n : ℕ) (a b d : Batch) (lines : List ℕ) → d ≡ record b { written = b.line }
    → AreFilled v u end from to n a b lines → AreFilled v u end from to n a d (lines ++ pending b)
filled_written v u end from to n a b d lines is h =
    let upto = h.upto in
    let near = h.near in
    let size = h.size in
    let rest = pending_size b h.room h.fits in
    let all = length-append lines (pending b) in
    let e : Batch = record b { written = b.line } in
    let none : (lines ++ pending b) ++ pending e ≡ lines ++ pending b =
    ap (λ (l : List ℕ). (lines ++ pending b) ++ l) (none_pending e refl) ∙ append-nil (lines ++ pending b) in
    subst (λ (z : Batch). AreFilled v u end from to n a z (lines ++ pending b)) (sym is) (record {
      line = h.line;
      end_is = h.end_is;
      room = record { bytes = h.room.bytes; words = h.room.words; later = h.room.later; own = h.room.own };
      heads = h.heads;
      upto = omega arith;
      near = omega arith;
      within = h.within;
      size = omega arith;
      fits = omega arith;
      read = λ c w old holds read.
          let r = h.read c w old holds read in (
            r.0,
            r.1,
            r.2,
            subst (λ (l : List ℕ). IsReadTo c (w ++ words_in l) (old ++ r.0) n b.line b.heads.items b.page b.starts.items) (sym none) r.3,
          );
    })

-- all are written: the lines are those of all regions
pub filled_all : (v u : View) (end from to n : ℕ) (a b : Batch) (lines : List ℕ) → AreFilled v u end from to n a b lines → n ≡ to
    → b.written ≡ b.line → HasCopied v u from to a b lines
filled_all v u end from to n a b lines h same written =
    let upto = h.upto in
    let near = h.near in
    let size = h.size in
    let none : lines ++ pending b ≡ lines = ap (λ (l : List ℕ). lines ++ l) (none_pending b written) ∙ append-nil lines in
    record {
      line = subst (λ (z : ℕ). IsLineAt u z b.line) same h.line;
      ordered = omega arith;
      size = omega arith;
      heads = h.heads;
      read = λ c w old holds read.
          let r = h.read c w old holds read in (
            r.0,
            r.1,
            r.2 ∙ same,
            subst (λ (z : List ℕ × ℕ). IsReadTo c (w ++ words_in z.0) (old ++ r.0) z.1 b.line b.heads.items b.page b.starts.items)
                (λ i. (none i, same i)) r.3,
          );
    }
