-- What the control pass, alone, has read is what is left of the log.
use Rattle.std.proofs.Common.{◌≡◌, ◌≢◌, ℕ, ◌+◌, ◌-◌, ◌*◌, ◌<◌, ◌≤◌, suc, List, length, refl, sym, ap, true, ◌∙◌, subst}
use Rattle.std.proofs.Common.{inl, inr, ⊎_elim, arith, Some, None}
use mathlib.Core.Option.{some-injective}
use Rattle.fish_catalog.specs.declared.entry.Entry.{Entry}
use Rattle.fish_rule.proofs.basics.Context.{Among, Found, View, World, get_elem?}
use Rattle.fish_rule.proofs.basics.Bodies.{code_once, kind-inside, published}
use Rattle.fish_rule.proofs.laws.ClosedLogs.{within_log}
use Rattle.fish_rule.proofs.basics.Lists.{all_among, only_control}
use Rattle.fish_rule.proofs.laws.Learning.{learns_self}
use Rattle.fish_rule.proofs.laws.LogWords.{entries_length, entries_log}
use Rattle.fish_rule.proofs.basics.Places.{IsFlier, RecordAt, lies_inside, record_at}
use Rattle.fish_rule.specs.Chains.{Linked}
use Rattle.fish_rule.specs.ClosedLog.{IsClosed}
use Rattle.fish_rule.specs.within.ClosedLog.{HasHead, HasLine, HasMarkAt, IsLogRead, IsReadUpTo, IsWholeLog}
use Rattle.fish_rule.specs.Facts.{IsFound}
use Rattle.fish_rule.specs.Logs.{IsLog}
use Rattle.fish_rule.specs.LogWords.{entries_in}
use Rattle.fish_rule.specs.Parts.{Flies, InFlight, IsEntryWord, RestsAt, first_head}
use Rattle.fish_rule.specs.LoadSteps.{IsAlone}
use Rattle.fish_rule.specs.Regions.{code}
use Rattle.fish_rule.specs.Table.{IsOfMoment}
use Rattle.fish_rule.specs.Gaps.{IsGap}
use Rattle.fish_rule.specs.World.{body, high}
use Rattle.fish_rule.specs.declared.close.ReadLog.{ReadLog}
use Rattle.fish_rule.specs.declared.close.WholeLog.{WholeLog}
use Rattle.fish_rule.specs.declared.view.Kind.TheVariants.{Mark, Stored}
use Rattle.fish_rule.specs.declared.view.Position.{Position}

module _ (v : View) (s : IsOfMoment v) (alone : IsAlone v) where
  -- nothing is in flight
  none_flies : (n c : ℕ) → ¬ IsFlier s.moment n c
  none_flies n c f =
      let w : World = s.moment in
      let r = s.rule in
      let flies : InFlight v.about w.count w.dir w.log r.start r.lane_of f.view.lane f.flight =
      subst (Flies v.about w.count w.dir w.log r.start r.lane_of f.view.lane) f.flies
      (r.space.flights f.seat f.view f.at) in
      let same : f.seat ≡ s.seat =
      only_control w.views s.seat f.seat v f.view r.seats s.at f.at alone.control alone.all flies.live in
      let view : v ≡ f.view =
      some-injective v f.view (sym s.at ∙ ap (get_elem? w.views) (sym same) ∙ f.at) in
      let bad : None ≡ Some f.flight = sym alone.idle ∙ ap (λ (z : View). z.flight) view ∙ f.flies in
      cc

  -- so each linked place is of a published record
  linked_published : (b p : ℕ) (h : Linked v.about s.moment.dir s.moment.log s.moment.views b p)
      → (t : RecordAt s.rule h.line h.entry) × (s.moment.dir t.number ≢ 0)
  linked_published b p h =
      let t = record_at s.rule h.line h.entry h.shows in (
        t,
        ⊎_elim (λ (set_ : s.moment.dir t.number ≢ 0). set_)
            (λ (f : (s.moment.dir t.number ≡ 0) × IsFlier s.moment t.number h.entry).
            absurd (none_flies t.number h.entry f.1)) t.owner,
      )

  module _ (upto : ℕ) (logged : (n : ℕ) → v.about.number ≤ n → s.moment.dir n ≢ 0
      → high (s.moment.dir n) ≡ code Stored → n < upto) where
    -- where the gap below a head is clear up to the log's end, no linked place lies above it
    linked_under : (b x end : ℕ) → upto ≤ end
        → Among (record { bucket = b; end = end; above = v.about.end * 4; below = x }) v.learned.gaps
        → (p : ℕ) → Linked v.about s.moment.dir s.moment.log s.moment.views b p → p ≤ x
    linked_under b x end more among p h =
        let w : World = s.moment in
        let r = s.rule in
        let found = linked_published b p h in
        let t = found.0 in
        let gap = all_among (IsGap v.about w.count w.dir w.log r.start) _ v.learned.gaps
        (r.facts s.seat v s.at).gaps among in
        let finished = r.space.finished t.number t.above t.below found.1 in
        let stored : high (w.dir t.number) ≡ code Stored = finished.kind ∙ ap code t.kind in
        let within = logged t.number t.above found.1 stored in
        let inside = lies_inside r b p h t in
        let end_ = kind-inside v.about.end (r.start t.number) (r.start (suc t.number))
        (λ e. let q : Stored ≡ Mark = sym t.kind ∙ e in cc) in
        gap.empty t.number h.entry p (omega arith)
        (record {
          above = t.above;
          stored = stored;
          is = subst (λ (z : ℕ). Rattle.fish_rule.specs.Chains.IsKeyEntry v.about.buckets (body w.log z) b p z h.entry)
              (sym t.line) h.is;
        }) (omega arith)

    -- so what was found is the head
    head_is : (settled b x : ℕ) → upto ≤ settled → HasHead v settled b x → x ≡ s.moment.head b
    head_is settled b x more h =
        let w : World = s.moment in
        let r = s.rule in
        let reached = all_among (λ z. z.place ≤ w.head z.bucket) _ v.learned.least_heads
        (r.chained s.seat v s.at).least_heads h.top in
        let g = h.gap in
        let far = g.1 in
        ⊎_elim (λ (e : w.head b ≡ first_head v.about b). at_first reached e)
        (λ (l : Linked v.about w.dir w.log w.views b (w.head b)).
        let under = linked_under b x g.0 (omega arith) g.2 (w.head b) l in omega arith) (r.chains b).some
      where
        at_first : x ≤ s.moment.head b → s.moment.head b ≡ first_head v.about b → x ≡ s.moment.head b
        at_first reached e = pick (Rattle.std.proofs.Math.Decide.ℕ_discrete (first_head v.about b) 0)
          where
            pick : Dec (first_head v.about b ≡ 0) → x ≡ s.moment.head b
            pick (yes z) = omega arith
            pick (no some_) =
                let low = s.rule.key_fits.older_heads b some_ in
                h.first (omega arith) ∙ sym e

-- ---- lines

module _ (v : View) (s : IsOfMoment v) where
  -- what was found is so
  found_at : (f : Found) → Among f v.learned.found → IsFound v.about s.moment.count s.moment.dir s.rule.start f
  found_at f m = all_among (IsFound v.about s.moment.count s.moment.dir s.rule.start) f v.learned.found
      (s.rule.facts s.seat v s.at).found m

  -- a line that is known is where the region begins
  line_at : (n line : ℕ) → HasLine v n line → s.rule.start n ≡ line
  line_at n line h = ap s.rule.start (sym h.2) ∙ (found_at h.0 h.1).line ∙ h.4

  -- so is that of a mark, which stands there
  mark_at : (n line : ℕ) → HasMarkAt v n line → (s.rule.start n ≡ line) × (high (s.moment.dir n) ≡ code Mark)
  mark_at n line h = (
    ap s.rule.start (sym h.2) ∙ (found_at h.0 h.1).line ∙ h.4,
    ap (λ (z : ℕ). high (s.moment.dir z)) (sym h.2) ∙ (found_at h.0 h.1).kind ∙ ap code h.3,
  )

-- ---- all of it

-- the numbers that were read each have an entry
pub entry_words : (v : View) (s : IsOfMoment v) (n : ℕ) (read : ReadLog) → IsReadUpTo v n read → (m : ℕ)
    → v.about.number ≤ m → m < n → IsEntryWord (s.moment.dir m)
entry_words v s n read h m above below =
    let c = (h.covers m above below).has in
    let f = found_at v s c.0 c.1 in
    let kind : high (s.moment.dir m) ≡ code c.0.kind = ap (λ (z : ℕ). high (s.moment.dir z)) (sym c.2) ∙ f.kind in
    record {
      published = published (s.moment.dir m) c.0.kind kind;
      unmarked = λ e. c.3 (code_once c.0.kind Mark (sym kind ∙ e));
    }

-- where all was read, the entries that the words spell are the log
pub closes_log : (v : View) (tail : Position) (read : ReadLog) (s : IsOfMoment v) → IsAlone v → v.tail ≡ Some tail
    → IsLogRead v tail.number tail.line read
    → IsLog v.about s.moment (entries_in s.moment.dir s.moment.log v.about.number (read.number - v.about.number))
closes_log v tail read s alone is_tail h =
    let w : World = s.moment in
    let upto = h.upto in
    let from = upto.from in
    let many = upto.many in
    let rests : RestsAt w.count w.line (Some tail) =
    subst (RestsAt w.count w.line) is_tail (s.rule.tails s.seat v s.at alone.control alone.all) in
    let count : tail.number ≡ w.count = rests.0 in
    let end : v.about.number + (read.number - v.about.number) ≡ h.number = omega arith in
    entries_log s.rule (read.number - v.about.number)
    (λ i less. entry_words v s h.number read upto (v.about.number + i) (omega arith) (omega arith))
    (⊎_elim (λ (e : (h.number ≡ tail.number) × (read.lines ≡ tail.line)). let n = e.0 in omega arith)
    (λ (m : (h.number < tail.number) × HasMarkAt v h.number read.lines). let n = m.0 in omega arith) h.ends)
    (⊎_elim (λ (e : (h.number ≡ tail.number) × (read.lines ≡ tail.line)). inl (end ∙ e.0 ∙ count))
    (λ (m : (h.number < tail.number) × HasMarkAt v h.number read.lines).
    inr (ap (λ (z : ℕ). high (w.dir z)) end ∙ (mark_at v s h.number read.lines m.1).1)) h.ends)

-- what was read is what is left of the log
pub closes : (v : View) (whole : WholeLog) (base : ℕ) (entries : List Entry) (s : IsOfMoment v)
    → IsAlone v → IsWholeLog v whole → base ≡ v.about.number
    → entries ≡ entries_in s.moment.dir s.moment.log v.about.number (whole.read.number - v.about.number)
    → IsClosed v (record {
      opened = true;
      base = base;
      log = entries;
      lines = whole.read.lines;
      heads = whole.heads;
      starts = whole.read.starts;
      version = whole.version;
    })
closes v whole base entries s alone all base_is entries_are =
    let w : World = s.moment in
    let r = s.rule in
    let read : ReadLog = whole.read in
    let tail : Position = all.tail in
    let h = all.read in
    let upto = h.upto in
    let from = upto.from in
    let many = upto.many in
    let far = all.far in
    let rests : RestsAt w.count w.line (Some tail) =
    subst (RestsAt w.count w.line) all.rests (r.tails s.seat v s.at alone.control alone.all) in
    let count : tail.number ≡ w.count = rests.0 in
    let line : tail.line ≡ w.line = rests.1 in
    let log : IsLog v.about w entries =
    subst (IsLog v.about w) (sym entries_are) (closes_log v tail read s alone all.rests h) in
    let size : length entries ≡ read.number - v.about.number = ap length entries_are
    ∙ entries_length r (read.number - v.about.number)
    (λ i less. entry_words v s h.number read upto (v.about.number + i) (omega arith) (omega arith)) in
    let end : v.about.number + length entries ≡ h.number = omega arith in
    record {
      moment = w;
      rule = r;
      log = log;
      base = base_is;
      lines = ⊎_elim
          (λ (e : (h.number ≡ tail.number) × (read.lines ≡ tail.line)).
          e.1 ∙ line ∙ sym r.space.regions.last ∙ ap r.start (sym count ∙ sym e.0 ∙ sym end))
          (λ (m : (h.number < tail.number) × HasMarkAt v h.number read.lines).
          sym (mark_at v s h.number read.lines m.1).0 ∙ ap r.start (sym end)) h.ends;
      many_heads = all.heads.many;
      heads = λ b x at. head_is v s alone (v.about.number + length entries)
          (λ n above set_ stored. in_log log n above set_ stored) all.settled b x (omega arith) (all.heads.each b x at);
      version = all.version ∙ ((r.registry.each s.seat v s.at).control alone.control).version;
      starts = record {
        rise = upto.rise;
        sound = λ t m. (let x = upto.sound t m in
            let below = x.1 in (x.0, omega arith, line_at v s t.number t.line x.2));
        first = λ n line above below begins. (let c = upto.covers n above (omega arith) in (
          c.start,
          c.among,
          c.page ∙ ap Rattle.fish_layout.specs.Pages.page_of (sym (line_at v s n c.line c.has) ∙ begins),
          c.upto,
        ));
      };
      seat = s.seat;
      last = v;
      at = s.at;
      later = learns_self v;
      lane_is = refl;
      out_is = refl;
      own_is = refl;
      rows_is = refl;
      owns = r.own s.seat v s.at;
      rests = r.tails s.seat v s.at alone.control alone.all;
      facts = r.facts s.seat v s.at;
    }
  where
    in_log : IsLog v.about s.moment entries → (n : ℕ) → v.about.number ≤ n → s.moment.dir n ≢ 0
        → high (s.moment.dir n) ≡ code Stored → n < v.about.number + length entries
    in_log log n above set_ stored =
        let e : v.about.number + (n - v.about.number) ≡ n = omega arith in
        let inside = within_log s.rule entries log (n - v.about.number)
        (subst (λ (z : ℕ). IsEntryWord (s.moment.dir z)) (sym e)
        (record { published = set_; unmarked = λ m. (let bad : code Stored ≡ code Mark = sym stored ∙ m in omega arith) })) in
        omega arith
