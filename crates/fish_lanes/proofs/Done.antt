-- What the statements so far tell, and what one item more tells after them.
use Rattle.std.proofs.Common.{◌≡◌, ℕ, ◌+◌, ◌<◌, ◌≤◌, suc, List, [], ◌∷◌, refl}
use Rattle.std.proofs.Common.{ap, ◌∙◌, subst, inl, inr, ◌⊎◌, ⊎_elim, arith, None, Some}
use Rattle.fish_lanes.proofs.Answered.{plan_told, refused_told, scan_told}
use Rattle.fish_lanes.proofs.Fitting.{refused_version}
use Rattle.fish_lanes.proofs.Claims.{claim_shown}
use Rattle.fish_lanes.proofs.Gaining.{alone_gains, gains_self}
use Rattle.fish_lanes.proofs.Items.{made_by_all, shown_in}
use Rattle.fish_lanes.proofs.Publishing.{published_later, settled_published, told_published}
use Rattle.fish_lanes.proofs.RowLists.{ascends_le}
use Rattle.fish_lanes.specs.within.Doing.{FitsCheckpoint, FitsRefused, IsFit}
pub use Rattle.fish_lanes.specs.within.Advancing.{HasAnswered}
use Rattle.fish_lanes.specs.within.Gains.{AreRowsKnown}
use Rattle.fish_lanes.specs.within.Published.{IsPublished}
use Rattle.fish_lanes.specs.Records.{HasNumber, LaneRow}
use Rattle.fish_lanes.specs.within.Records.{Ascends, entry_of}
use Rattle.fish_lanes.specs.Scanning.{SaysRefused}
use Rattle.fish_lanes.specs.Seen.{IsSeen}
use Rattle.fish_lanes.specs.Sizes.{IsEarlier, IsSizeOf, SaysClaim, claim_of}
use Rattle.fish_lanes.specs.within.Sizes.{IsSizeBetween}
use Rattle.fish_lanes.specs.Spans.{Span}
use Rattle.fish_lanes.specs.within.Spans.{IsWithinSpan}
use Rattle.fish_lanes.specs.Telling.{SaysItem}
use Rattle.fish_lanes.specs.declared.work.Work.{Work}
use Rattle.fish_lanes.specs.declared.work.Work.TheVariants as work
use Rattle.fish_report.specs.declared.item.Item.{Item}
use Rattle.fish_report.specs.declared.item.Item.TheVariants as item
use Rattle.fish_report.specs.declared.item.ScanCause.{ScanCause}
use Rattle.fish_rule.proofs.laws.ClosedLogs.{always_closed}
use Rattle.fish_rule.proofs.laws.Learning.{learns_both}
use Rattle.fish_rule.proofs.laws.Moments.{before_mark}
use Rattle.fish_rule.specs.LoadSteps.{IsAlone}
use Rattle.fish_rule.specs.Logs.{Learns, KnowsMark}
use Rattle.fish_rule.specs.Parts.{IsEntryWord}
use Rattle.fish_rule.specs.Regions.{code}
use Rattle.fish_rule.specs.World.{high}
use Rattle.fish_rule.specs.declared.view.Epoch.TheVariants.{Out}
use Rattle.fish_rule.specs.declared.view.Key.{Key}
use Rattle.fish_rule.specs.declared.view.Kind.TheVariants.{Mark}
use Rattle.fish_rule.specs.declared.view.View.{View}
use Rattle.fish_scan.specs.declared.ask.Ask.{Ask}
use Rattle.fish_value.specs.declared.field.Form.{Form}
use Rattle.fish_whole.proofs.Wholes.{sure_rows}
use Rattle.fish_whole.specs.Whole.{MustHold, Whole}
use Rattle.fish_whole.specs.within.Whole.{MustHoldUpTo}

-- none
pub told_self : (Past : Whole → Type 0) (v : View) → v.epoch ≡ Out → v.flight ≡ None → HasAnswered Past v v [] []
told_self Past v outside idle = record {
  rows = [];
  gains = gains_self v outside idle;
  tells = λ past behind s within full w m far. refl;
  shown = λ n s m. elim m [ ];
  settles = λ n m. elim m [ ];
  ends = tt;
  size = refl;
  full = tt;
  versions = omega arith;
  shuts = λ c e. inl e;
}

-- ---- what was seen

-- a row that is told is published
row_published : (v : View) (lane from to n : ℕ) (rows : List LaneRow) → AreRowsKnown v lane rows → Ascends from rows to
    → to ≤ v.learned.count → HasNumber n rows → IsPublished v n
row_published v lane from to n [] told up few h = elim h [ ]
row_published v lane from to n (r ∷ rows) told up few (inl e) =
    subst (IsPublished v) e (told_published v r.number (entry_of lane r) told.0
    (let b = ascends_le (suc r.number) to rows up.1 in omega arith))
row_published v lane from to n (r ∷ rows) told up few (inr m) =
    row_published v lane (suc r.number) to n rows told.1 up.1 few m

-- and was counted
row_below : (to from n : ℕ) (rows : List LaneRow) → Ascends from rows to → HasNumber n rows → n < to
row_below to from n [] up h = elim h [ ]
row_below to from n (r ∷ rows) up (inl e) = (let b = ascends_le (suc r.number) to rows up.1 in omega arith)
row_below to from n (r ∷ rows) up (inr m) = row_below to (suc r.number) n rows up.1 m

-- what was seen of the table is published
seen_published : {Past : Whole → Type 0} (v u : View) (works : List Work) (items : List Item) (from : ℕ)
    → (h : HasAnswered Past v u works items)
    → from ≤ v.learned.settled → from ≤ v.learned.count → (n : ℕ) → IsSeen from h.rows (shown_in items) n → u.about.number ≤ n
    → IsPublished u n
seen_published v u works items from h less counted n (inl under) low =
    let same : u.about.number ≡ v.about.number = ap (λ (z : Key). z.number) h.gains.on.learns.about in
    published_later v u n h.gains.on.learns (settled_published v n (omega arith) (omega arith) (omega arith))
seen_published v u works items from h less counted n (inr (inl own)) low =
    row_published u v.lane v.learned.count u.learned.count n h.rows h.gains.told h.gains.ascends (omega arith) own
seen_published v u works items from h less counted n (inr (inr s)) low = h.shown n s.0 s.1 s.2 low

-- ---- what one item tells

module _ (Past : Whole → Type 0) (v u t : View) (works : List Work) (items : List Item) (s : Span) (h : HasAnswered Past v u works items)
    (on : Learns u t) (within : IsWithinSpan v t s) (was : s.full ≡ v.shut) (past : Whole) where
  -- of one table
  number_is : u.about.number ≡ v.about.number
  number_is = ap (λ (z : Key). z.number) h.gains.on.learns.about

  -- after the items so far
  abbrev pub now : Span
  now = record s { first = s.first + made_by_all items }

  within_now : IsWithinSpan u t now
  within_now =
      let first = within.first in
      let versions = h.versions in
      let settled = within.settled in
      let settled_more = h.gains.on.learns.settled in
      let counted = within.counted in
      let counted_more = h.gains.on.learns.count in
      record {
        first = omega arith;
        last = within.last;
        above = (let same = number_is in let above = within.above in omega arith);
        settled = omega arith;
        counted = omega arith;
        near = within.near;
        alone = λ one. alone_gains v u h.rows h.gains (within.alone one);
        stored = within.stored;
        entries = within.entries;
      }

  seen_is : (n : ℕ) → IsSeen s.from h.rows (shown_in items) n → u.about.number ≤ n → IsPublished u n
  seen_is n seen low = seen_published v u works items s.from h within.settled within.counted n seen low

  -- a version that the pass knew in the step is one of the block
  version_now : (version : ℕ) → (u.learned.version ≤ version) × (version ≤ t.learned.version)
      → (now.first ≤ version) × (version ≤ now.last)
  version_now version known =
      let inside = within_now in
      let first = inside.first in
      let last = inside.last in
      let least = known.0 in
      let most = known.1 in
      (omega arith, omega arith)

  -- what a refusal tells
  refusal_told : (ask : Ask) (refused : List ℕ → ℕ → ScanCause → Item) (x : Item) → FitsRefused u t ask refused x
      → MustHold past t (λ w. SaysRefused w now ask refused x)
  refusal_told ask refused x f w m =
      let at = version_now f.version (refused_version u t ask f.version f.why f.fits) in
      record {
        version = f.version;
        why = f.why;
        is = f.is;
        least = at.0;
        most = at.1;
        tells = refused_told u t ask on (IsSeen s.from h.rows (shown_in items)) seen_is now within_now past f.version f.why f.fits w m;
      }

  -- the lines are those of an earlier claim, or of the record
  size_told : (form : Form) (payload : List ℕ) (line lines end : ℕ)
      → (u.shut ≡ Some (claim_of line lines end)) ⊎ IsSizeBetween u t form payload lines
      → MustHold past t (λ w. IsEarlier now (shown_in items) line lines end ⊎ IsSizeOf w now form payload lines)
  size_told form payload line lines end (inl same) w m = inl
      (⊎_elim (λ (first : v.shut ≡ Some (claim_of line lines end)). inl (was ∙ first))
      (λ (told : SaysClaim (claim_of line lines end) items). inr (claim_shown (claim_of line lines end) items told))
      (h.shuts (claim_of line lines end) same))
  size_told form payload line lines end (inr b) w m =
      let at = version_now b.version (b.least, b.knows.reached) in
      inr (record {
        version = b.version;
        rows = b.rows;
        has = record { least = at.0; most = at.1; are = sure_rows past t b.version b.rows b.knows w m };
        size = b.size;
      })

  -- what the lane stored before a checkpoint of a pass that is alone lies below it
  below_count : (x : Item) (f : FitsCheckpoint u t x) → IsAlone u → MustHold past t (λ w. (n : ℕ) → HasNumber n h.rows → n < f.count)
  below_count x f alone w m n has =
      let e = f.exact alone in
      let claimed = e.3 in
      let under = row_below u.learned.count v.learned.count n h.rows h.gains.ascends has in
      ⊎_elim (λ (all : f.count ≡ e.0). omega arith)
      (λ (mark : (f.count < e.0) × KnowsMark t f.count).
      let same = number_is in
      let then : m.last.about.number ≡ u.about.number = ap (λ (z : Key). z.number) (m.learns.about ∙ on.about) in
      let above = within.above in
      let settled = within.settled in
      let more = h.gains.on.learns.settled in
      let least = f.above in
      before_mark m.closed.rule f.count n (omega arith)
      (always_closed t m.last (λ k x. high (x.dir f.count) ≡ code Mark) m.remains m.learns m.closed mark.1)
      (always_closed u m.last (λ k x. IsEntryWord (x.dir n)) m.remains (learns_both u t m.last on m.learns) m.closed
      (row_published u v.lane v.learned.count u.learned.count n h.rows h.gains.told h.gains.ascends (omega arith) has).entry)) e.2

  -- what fits is told
  pub item_told : Past past → (w : Work) (x : Item) → IsFit Past u t w x
      → MustHoldUpTo past t s.to (λ z. SaysItem z now h.rows (shown_in items) w x)
  item_told behind (work.Register name def) x f w m far = f
  item_told behind (work.Deregister name) x f w m far = f
  item_told behind (work.Ingest form begin name file) x (inl s) w m far = inl s
  item_told behind (work.Ingest form begin name file) x (inr (inl f)) w m far = inr (inl (record {
    line = f.line;
    lines = f.lines;
    end = f.end;
    stored = f.stored;
    many = f.many;
    is = f.is;
    within = f.within;
    counted = f.counted;
    past = f.full.past;
    size = size_told form f.counted.payload f.line f.lines f.end f.size w m;
  }))
  item_told behind (work.Ingest form begin name file) x (inr (inr l)) w m far = inr (inr l)
  item_told behind (work.Scan ask) x (inl f) w m far = inl (record {
    from = f.from;
    to = f.to;
    opens = f.opens;
    rows = f.rows;
    version = f.version;
    is = f.is;
    tells = scan_told u t ask on (IsSeen s.from h.rows (shown_in items)) seen_is now within_now past Past behind f.from f.to f.opens
        f.rows f.version f.fits w m far;
  })
  item_told behind (work.Scan ask) x (inr f) w m far = inr (refusal_told ask item.ScanRefused x f w m)
  item_told behind (work.Explain ask) x (inl f) w m far = inl (record {
    from = f.from;
    to = f.to;
    plan = f.plan;
    version = f.version;
    is = f.is;
    tells = plan_told u t ask on (IsSeen s.from h.rows (shown_in items)) seen_is now within_now past f.from f.to f.plan
        f.version f.fits w m;
  })
  item_told behind (work.Explain ask) x (inr f) w m far = inr (refusal_told ask item.ExplainRefused x f w m)
  item_told behind work.Checkpoint x f w m far = record {
    count = f.count;
    is = f.is;
    above = (let a = f.above in let b = h.gains.on.learns.settled in let e = within.settled in omega arith);
    own = λ one n has. below_count x f (within_now.alone one) w m n has;
    within = (let a = f.settled in let e = within.stored in omega arith);
    rises = λ k n. let a = f.above in let e = h.settles k n in omega arith;
  }
