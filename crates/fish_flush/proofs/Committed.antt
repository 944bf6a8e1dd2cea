-- A draft that is committed, or not: what the file carries then.
use Rattle.std.proofs.Common.{◌≡◌, ℕ, zero, suc, ◌+◌, ◌-◌, ◌*◌, ◌%◌, ◌<◌, ◌≤◌, ◌⊎◌, inl, inr, List, [], ◌∷◌}
use Rattle.std.proofs.Common.{◌++◌, length, drop}
use Rattle.std.proofs.Common.{refl, ap, sym, ◌∙◌, subst, arith, length-append, append-nil}
use Rattle.std.proofs.lemmas.List.{drop-append-le}
use Rattle.fish_catalog.specs.declared.commit.Commit.{Commit}
use Rattle.fish_catalog.specs.declared.entry.Entry.{Entry}
use Rattle.fish_catalog.specs.declared.row.CatRow.{CatRow}
use Rattle.fish_disk.specs.Crash.{LeavesOnly}
use Rattle.fish_disk.proofs.Moments.{leaves_more}
use Rattle.fish_flush.specs.Carrying.{CarriesLog, LeavesEither}
use Rattle.fish_flush.specs.within.Carrying.{IsDrafted, flusher_after}
use Rattle.fish_flush.specs.Going.{ComesFrom, GoesOnFrom}
use Rattle.fish_flush.specs.Kept.{IsAtRest, IsCommitted, commit_of}
use Rattle.fish_flush.specs.Rows.{HoldsRows}
use Rattle.fish_flush.specs.within.Writing.{EitherCommit, Grows}
use Rattle.fish_flush.specs.declared.drafting.Draft.{Draft}
use Rattle.fish_flush.specs.declared.flusher.Flusher.{Flusher}
use Rattle.fish_flush.proofs.Growing.{grown_self}
use Rattle.fish_image.proofs.Spelling.{told_word}
use Rattle.fish_image.specs.Log.{Agrees, FollowsIn}
use Rattle.fish_image.specs.Reached.{Reached}
use Rattle.fish_image.specs.Reading.{IsBodyOf}
use Rattle.fish_image.specs.Slot.{number}
use Rattle.fish_image.specs.Stands.{IsLogOf, Stands}
use Rattle.fish_rule.proofs.laws.Alone.{knows_as_later}
use Rattle.fish_rule.specs.Logs.{AreKnown, Learns, KnowsAs}
use Rattle.fish_rule.specs.declared.table.Shape.{Shape}
use Rattle.fish_rule.specs.declared.view.Key.{Key}
use Rattle.fish_rule.specs.declared.view.View.{View}
use Rattle.fish_slots.specs.Commits.{HasCommit, SlotRests, next_turn, turn_of}
use Rattle.fish_slots.specs.Offsets.{lines_at}
use Rattle.fish_slots.specs.Slots.{line_count}

-- ---- entries

-- so many regions have as many entries
one_entry : (c : Commit) (s : Reached) (lines : ℕ) (r : List ℕ) (t : Reached) → FollowsIn c s lines r t
    → length t.entries ≡ suc (length s.entries)
one_entry c s lines r t (inl v) =
    ap (λ (z : Reached). length z.entries) v.1
    ∙ length-append s.entries (Rattle.fish_catalog.specs.declared.entry.Entry.TheVariants.Void ∷ [])
    ∙ omega arith
one_entry c s lines r t (inr v) =
    ap (λ (z : Reached). length z.entries) v.2
    ∙ length-append s.entries (Rattle.fish_catalog.specs.declared.entry.Entry.TheVariants.Stored v.0.lane v.0.form v.0.payload ∷ [])
    ∙ omega arith

-- as many entries were read as regions follow
pub agrees_entries : (c : Commit) (w : List ℕ) (k : ℕ) (s : Reached) → Agrees c w k s → length s.entries ≡ k
agrees_entries c w zero s h = ap (λ (z : Reached). length z.entries) h
agrees_entries c w (suc k) s h = one_entry c h.0 _ _ s h.2 ∙ ap suc (agrees_entries c w k h.0 h.1)

-- a log that is committed has as many entries as were counted
pub committed_length : (f : Flusher) (c : Commit) (body lines : List ℕ) (log : List Entry) → IsCommitted f c body lines log
    → length log ≡ c.count
committed_length f c body lines log h =
    ap (λ (l : List Entry). length l) (sym h.is.stands.entries) ∙ agrees_entries c _ c.count h.is.stands.end h.is.stands.agrees

-- entries that are told, one after the other
pub told_both : (u : View) (base : ℕ) (xs ys : List Entry) → AreKnown u base xs → AreKnown u (base + length xs) ys
    → AreKnown u base (xs ++ ys)
told_both u base [] ys first second i e at =
    let same : base + length (let none : List Entry = [] in none) + i ≡ base + i = omega arith in
    subst (λ (n : ℕ). KnowsAs u n e) same (second i e at)
told_both u base (x ∷ xs) ys first second zero e at = first zero e at
told_both u base (x ∷ xs) ys first second (suc i) e at =
    let up : base + 1 + i ≡ base + suc i = omega arith in
    let size : base + length (x ∷ xs) ≡ base + 1 + length xs = omega arith in
    subst (λ (n : ℕ). KnowsAs u n e) up
    (told_both u (base + 1) xs ys
    (λ j d there. (let over : base + suc j ≡ base + 1 + j = omega arith in subst (λ (n : ℕ). KnowsAs u n d) over (first (suc j) d there)))
    (subst (λ (n : ℕ). AreKnown u n ys) size second) i e at)

-- entries that a pass knows it knows later too
pub told_later : (v u : View) (base : ℕ) (xs : List Entry) → Learns v u → AreKnown v base xs → AreKnown u base xs
told_later v u base xs learns told i e at = knows_as_later v u (base + i) e learns (told i e at)

-- ---- bodies

-- the lines and the turn that a body tells
pub body_lines : (c : Commit) (b : List ℕ) → IsBodyOf c b → line_count b ≡ c.lines
unfolding line_count number
body_lines c b h = told_word c b h 5 (omega arith)

-- a body's second word is the turn of its commit
body_turn : (c : Commit) (b : List ℕ) → IsBodyOf c b → turn_of b ≡ c.turn
unfolding turn_of number
body_turn c b h = told_word c b h 1 (omega arith)

-- the turn that a draft takes is the next one
turn_behind : (t : ℕ) → next_turn t ≡ (t + 1) % 3
unfolding next_turn
turn_behind t = refl

-- ---- images

-- an image that has the last commit goes on from its lines
pub still_goes : (f : Flusher) (c : Commit) (log : List Entry) (images : List ℕ → Type 0) (at : IsAtRest images f c log) (i : List ℕ)
    → HasCommit at.body at.lines i → GoesOnFrom c at.lines i
still_goes f c log images at i h =
    let same = sym (append-nil at.lines) in
    record {
      commit = c;
      body = at.body;
      more = [];
      log = log;
      has = subst (λ (l : List ℕ). HasCommit at.body l i) same h;
      is = subst (λ (l : List ℕ). IsLogOf c at.body l log) same at.committed.is;
      size = ap (λ (l : List ℕ). length l) (append-nil at.lines) ∙ at.committed.size;
      bits = refl;
      counts = omega arith;
      ends = omega arith;
      grown = grown_self c.count c.rows;
    }

-- ---- a draft

module _ (images : List ℕ → Type 0) (f : Flusher) (v u : View) (s : Shape) (rows : List CatRow) (to : ℕ) (d : Draft)
    (lines : List ℕ) (drafts : IsDrafted u s f rows to d lines) (c : Commit) (old : List Entry) (at : IsAtRest images f c old)
    (bits : c.bucket_bits ≡ s.bucket_bits) (grown : Rattle.fish_flush.specs.Rows.HaveGrown c.count c.rows rows) where
  -- what is kept after it
  after : Flusher
  after = flusher_after f d

  -- it goes on from what rests there
  pub draft_grows : Grows images (1 - f.slot) f.line at.body at.lines d.body lines
  draft_grows =
      let le = at.slot_is in
      let other : f.slot ≡ 1 - (1 - f.slot) = omega arith in
      let committed = at.committed in
      let before : line_count at.body ≡ f.line = body_lines c at.body committed.is.told ∙ committed.line in
      let behind = body_lines _ d.body drafts.told in
      let within = drafts.ordered in
      let size = drafts.size in
      let whole = committed.size in
      let line = committed.line in
      record {
        rests = λ i here. subst (λ (t : ℕ). SlotRests t at.body at.lines i) other (at.rests i here);
        long = at.long;
        before = before;
        whole = omega arith;
        after = omega arith;
        turn = body_turn _ d.body drafts.told ∙ drafts.turn ∙ ap (λ (t : ℕ). (t + 1) % 3) (sym committed.turn) ∙ sym (turn_behind c.turn)
            ∙ ap next_turn (sym (body_turn c at.body committed.is.told));
      }

  -- what the draft adds
  pub draft_more : (more : List Entry) × AreKnown u f.count more × (length more + f.count ≡ to)
      × IsCommitted (flusher_after f d) (commit_of (flusher_after f d) s rows) d.body (at.lines ++ lines) (old ++ more)
  draft_more = drafts.read c at.body at.lines old at.committed bits grown

  -- an image with one of the commits stands for one of the logs
  pub either_stands : (i : List ℕ) → EitherCommit at.body at.lines d.body (at.lines ++ lines) i
      → Stands c i old ⊎ Stands (commit_of (flusher_after f d) s rows) i (old ++ draft_more.0)
  either_stands i (inl h) = inl (record { body = at.body; lines = at.lines; commit = h; is = at.committed.is })
  either_stands i (inr h) = inr (record { body = d.body; lines = at.lines ++ lines; commit = h; is = draft_more.3.is })

  -- and goes on from the lines of the last one
  pub either_goes : (i : List ℕ) → EitherCommit at.body at.lines d.body (at.lines ++ lines) i → GoesOnFrom c at.lines i
  either_goes i (inl h) = still_goes f c old images at i h
  either_goes i (inr h) =
      let m = draft_more in
      let counted = at.committed.count in
      let upto = m.2 in
      let count = drafts.count in
      let line = at.committed.line in
      let ordered = drafts.ordered in
      record {
        commit = commit_of (flusher_after f d) s rows;
        body = d.body;
        more = lines;
        log = old ++ m.0;
        has = h;
        is = m.3.is;
        size = m.3.size;
        bits = bits;
        counts = omega arith;
        ends = omega arith;
        grown = grown;
      }

  -- a crash leaves one of them
  pub draft_leaves : {D : Type 0} (im : D → List ℕ → Type 0) (since : D → ℕ → List ℕ → Type 0) (moment : D → ℕ) (x y : D)
      → LeavesOnly im since moment x y (EitherCommit at.body at.lines d.body (at.lines ++ lines)) → ComesFrom (im x) (im y)
      → LeavesEither im since moment x y u rows c old at.lines
  draft_leaves im since moment x y leaves was =
      let m = draft_more in
      let counted = at.committed.count in
      let upto = m.2 in
      let count = drafts.count in
      record {
        more = m.0;
        next = commit_of (flusher_after f d) s rows;
        told = subst (λ (n : ℕ). AreKnown u n m.0) (sym counted) m.1;
        rows_are = refl;
        count = omega arith;
        leaves = leaves_more im since moment x y (EitherCommit at.body at.lines d.body (at.lines ++ lines)) _ either_stands leaves;
        goes = leaves_more im since moment x y (EitherCommit at.body at.lines d.body (at.lines ++ lines)) _ either_goes leaves;
        was = was;
      }

  -- and once it is committed, the file carries it
  pub draft_carries : (images' : List ℕ → Type 0) → Learns v u → v.about.number ≤ f.count → to ≤ u.learned.settled
      → AreKnown v v.about.number (drop v.about.number old)
      → ((i : List ℕ) → images' i → SlotRests (1 - f.slot) d.body (at.lines ++ lines) i)
      → ((i : List ℕ) → images' i → lines_at + 32 * d.line ≤ length i)
      → (length (old ++ draft_more.0) ≡ to)
      × CarriesLog images' (flusher_after f d) u s rows (commit_of (flusher_after f d) s rows) (old ++ draft_more.0)
  draft_carries images' learns from settled told rests long =
      let m = draft_more in
      let le = at.slot_is in
      let size = committed_length f c at.body at.lines old at.committed in
      let counted = at.committed.count in
      let upto = m.2 in
      let count = drafts.count in
      let both = length-append old m.0 in
      let about = ap (λ (z : Key). z.number) learns.about in
      let base : ℕ = u.about.number in
      let cut : drop base (old ++ m.0) ≡ drop base old ++ m.0 = drop-append-le base old m.0 (omega arith) in
      let left = Rattle.std.proofs.Common.length-drop base old in
      let place : f.count ≡ base + length (drop base old) = omega arith in
      let same : v.about.number ≡ base = sym about in (
        omega arith,
        record {
          rest = record {
            slot_is = omega arith;
            body = d.body;
            lines = at.lines ++ lines;
            rests = rests;
            long = long;
            committed = m.3;
          };
          pages = refl;
          bits = refl;
          grown = grown_self d.count rows;
          from = omega arith;
          settled = omega arith;
          line = subst (λ (n : ℕ). Rattle.fish_flush.specs.Reading.IsLineAt u n d.line) (sym count) drafts.line;
          told = subst (AreKnown u base) (sym cut)
              (told_both u base (drop base old) m.0
              (subst (λ (n : ℕ). AreKnown u n (drop n old)) same (told_later v u v.about.number (drop v.about.number old) learns told))
              (subst (λ (n : ℕ). AreKnown u n m.0) place m.1));
        },
      )
