-- What a checkpoint tells, from what its parts tell.
use Rattle.std.proofs.Common.{◌≡◌, ℕ, ◌≤◌, List, ◌++◌}
use Rattle.std.proofs.Common.{refl, ap, sym, ◌∙◌, subst, arith, append_assoc, drop}
use Rattle.std.specs.Prelude.{Result, Ok, Err, IfOk, OnOk, IsErrAnd, IsErrOf}
use Rattle.std.proofs.lemmas.Nat.{pow_pos}
use Rattle.fish_catalog.specs.declared.commit.Commit.{Commit}
use Rattle.fish_catalog.specs.declared.entry.Entry.{Entry}
use Rattle.fish_catalog.specs.declared.row.CatRow.{CatRow}
use Rattle.fish_flush.specs.Carrying.{CarriesLog, HasSettled, ReadsLog}
use Rattle.fish_flush.specs.within.Carrying.{Drafts, MayDraft, MaySave}
use Rattle.fish_flush.specs.Causes.{HasFlushCause}
use Rattle.fish_flush.specs.Rows.{HoldsRows}
use Rattle.fish_flush.specs.declared.flusher.Flusher.{Flusher}
use Rattle.fish_flush.specs.declared.refusal.FlushRefusal.{FlushRefusal}
use Rattle.fish_flush.specs.declared.refusal.FlushRefusal.TheVariants.{DiskFault, OutOfMemory}
use Rattle.fish_flush.proofs.RegionSteps.{holds_later, line_later}
use Rattle.fish_rule.proofs.laws.Clocks.{loaded_within, later_self}
use Rattle.fish_rule.proofs.laws.Learning.{learns_both, learns_self}
use Rattle.fish_rule.specs.Clocks.{IsLater}
use Rattle.fish_rule.specs.LoadSteps.{IsAlone}
use Rattle.fish_rule.specs.Logs.{AreKnown, Extends}
use Rattle.fish_flush.specs.declared.drafting.Draft.{Draft}
use Rattle.fish_flush.proofs.Committed.{told_later}
use Rattle.fish_rule.specs.declared.table.Shape.{Shape}
use Rattle.fish_rule.specs.declared.view.Clock.{Clock}
use Rattle.fish_rule.specs.World.{high}
use Rattle.fish_rule.specs.declared.view.Key.{Key}
use Rattle.fish_rule.specs.declared.view.View.{View}
use Rattle.fish_walk.proofs.Looking.{ends_later, stops_below, stops_within}
use Rattle.fish_walk.specs.Looks.{IsTailCount}
use Rattle.fish_walk.specs.Settling.{EndsAt, HasLoadedCount, HasTail, IsEnd, IsMark, OnlySettles, SettlesAt}

-- one clock after another
later_both : (a b c : Clock) → IsLater a b → IsLater b c → IsLater a c
later_both a b c first second =
    let s1 = first.steps in
    let s2 = second.steps in
    let l1 = first.loads in
    let l2 = second.loads in
    record {
      steps = omega arith;
      loads = omega arith;
      notes = second.notes ++ first.notes;
      since = second.since ∙ ap (λ l. second.notes ++ l) first.since ∙ sym (append_assoc second.notes first.notes a.notes);
    }

module _ (v m u : View) (settles : OnlySettles v m) (on : Extends m u) where
  -- the call only reads
  pub reads_on : (count : ℕ) → HasTail m count → (IsAlone v → IsTailCount count v.tail) → ReadsLog v u
  reads_on count has rests = record {
    learns = learns_both v m u settles.learns on.learns;
    clock = later_both v.clock m.clock u.clock settles.clock on.clock;
    frame = on.frame
        ∙ (λ i. record (settles.frame i) { learned = u.learned; clock = u.clock })
        ∙ ap (λ t. record v { tail = t; learned = u.learned; clock = u.clock }) (sym (ap (λ (z : View). z.tail) on.frame));
    tail = λ alone n was.
        let same : high was.0 ≡ count = subst (IsTailCount count) was.1 (rests alone) in
        (has.0, ap (λ (z : View). z.tail) on.frame ∙ has.1, has.2 ∙ sym same ∙ was.2);
  }

  -- what settled the number is told of the whole call
  pub has_settled : (n count : ℕ) → v.learned.settled ≤ n → n ≤ m.learned.settled → HasLoadedCount v m count → v.learned.count ≤ count
      → SettlesAt IsEnd v m n count
      → (IsAlone v → SettlesAt IsMark v m n count) → (IsAlone v → EndsAt m n count) → (IsAlone v → IsTailCount count v.tail)
      → HasSettled v u n
  has_settled n count rises settled loaded known stops alone ends rests = record {
    rises = rises;
    settled = (let more = on.learns.settled in omega arith);
    count = count;
    loaded = record {
      tail = loaded.tail;
      loaded = loaded_within v.clock v.clock m.clock u.clock _ loaded.tail (later_self v.clock) loaded.loaded on.clock;
      is = loaded.is;
    };
    known = known;
    stops = stops_within IsEnd v v m u n count (learns_self v) (later_self v.clock) stops on.clock;
    alone = λ h. stops_within IsMark v v m u n count (learns_self v) (later_self v.clock) (alone h) on.clock;
    ends = λ h. ends_later m u n count on.learns (ends h);
    rests = rests;
  }

-- the number is one that was counted
pub settled_counted : (v m : View) (n count : ℕ) → SettlesAt IsEnd v m n count → HasTail m count → n ≤ m.learned.count
settled_counted v m n count stops tail = (let below = stops_below IsEnd v m n count stops in let same = tail.3 in omega arith)

-- the flusher may draft
pub may_draft : (images : List ℕ → Type 0) (v m : View) (f : Flusher) (s : Shape) (rows : List CatRow)
    (c : Commit) (old : List Entry) (to : ℕ)
    → OnlySettles v m → v.learned.settled ≤ to → HoldsRows v rows → CarriesLog images f v s rows c old → MayDraft m s f rows to
may_draft images v m f s rows c old to settles rises holds h =
    let committed = h.rest.committed in
    let within = committed.is.told.commit.within in
    let some_pages = within.some_pages in
    let few_pages = within.few_pages in
    let some_bits = within.some_bits in
    let few_bits = within.few_bits in
    let pages = h.pages in
    let bits = h.bits in
    let turn = committed.turn in
    let less = within.turn in
    let size = committed.heads.size in
    let power = pow_pos c.bucket_bits in
    let about = ap (λ (z : Key). z.number) settles.learns.about in
    let from = h.from in
    let settled = h.settled in
    let frame = settles.frame in
    record {
      rows_are = holds_later v m rows (ap (λ (z : View). z.lane) frame) (ap (λ (z : View). z.rows) frame)
          (ap (λ (z : View). z.control_words) frame) holds;
      shape = record { some_pages = omega arith; few_pages = omega arith; some_bits = omega arith; few_bits = omega arith };
      turn = omega arith;
      some = omega arith;
      from = omega arith;
      ordered = omega arith;
      line = line_later v m f.count f.line settles.learns h.line;
    }

-- the draft may be saved
unfoldable pub may_save : (images : List ℕ → Type 0) (v m u : View) (end : ℕ) (s : Shape) (f : Flusher) (d : Draft) (rows : List CatRow)
    (c : Commit) (old : List Entry) (to : ℕ)
    → OnlySettles v m → v.learned.settled ≤ to → to ≤ m.learned.settled → to ≤ m.learned.count → Extends m u → HoldsRows v rows
    → CarriesLog images f v s rows c old → Drafts u end s f rows to d → MaySave images u end s f d rows c old
may_save images v m u end s f d rows c old to settles rises settled counted on holds h drafts =
    let may = may_draft images v m f s rows c old to settles rises holds h in
    let learns = learns_both v m u settles.learns on.learns in
    let number = ap (λ (z : Key). z.number) learns.about in
    let about = ap (λ (z : Key). z.number) on.learns.about in
    let more = on.learns.settled in
    let many = on.learns.count in
    let count = drafts.count in
    let from = may.from in
    let ordered = may.ordered in
    let frame = on.frame in
    record {
      may = record {
        rows_are = holds_later m u rows (ap (λ (z : View). z.lane) frame) (ap (λ (z : View). z.rows) frame)
            (ap (λ (z : View). z.control_words) frame) may.rows_are;
        shape = may.shape;
        turn = may.turn;
        some = may.some;
        from = omega arith;
        ordered = omega arith;
        line = line_later m u f.count f.line on.learns may.line;
      };
      drafts = subst (λ (n : ℕ). Drafts u end s f rows n d) (sym count) drafts;
      settled = omega arith;
      counted = omega arith;
      rest = h.rest;
      bits = h.bits;
      grown = h.grown;
      told = subst (λ (k : ℕ). AreKnown u k (drop k old)) (sym number)
          (told_later v u v.about.number (drop v.about.number old) learns h.told);
    }

-- ---- refusals

-- that memory ran out is no fault
pub no_fault : {T : Type 0} (r : Result T FlushRefusal) → IsErrAnd r (λ e. e ≡ OutOfMemory) → IsErrOf r DiskFault → ⊥
no_fault (Ok x) h is = elim h [ ]
no_fault (Err e) h is = cc

-- and raises no count
pub memory_cause : {T : Type 0} (n : ℕ) (r : Result T FlushRefusal) → IsErrAnd r (λ e. e ≡ OutOfMemory) → HasFlushCause n n r
memory_cause n (Ok x) h = elim h [ ]
memory_cause n (Err e) h = record {
  later = omega arith;
  failed = λ is. absurd (no_fault (Err e) h is);
  memory = λ is. refl;
}

-- what holds where a call succeeds, from what it tells then
pub ok_all : {E : Type 0} (r : Result ℕ E) (A P : ℕ → Type 0) (B C : Type 0) → IfOk r A → OnOk r B → OnOk r C
    → ((n : ℕ) → A n → B → C → P n) → IfOk r P
ok_all (Ok n) A P B C a b c f = f n a b c
ok_all (Err e) A P B C a b c f = tt
