-- What a scan or a plan of one answers is told of the one log.
use Rattle.std.proofs.Common.{◌≡◌, ℕ, ◌+◌, ◌<◌, ◌≤◌, zero, suc, List, [], ◌∷◌, ◌++◌, length, map, max, min, refl, sym, ap, ◌∙◌, subst}
use Rattle.std.proofs.Common.{append_assoc, inl, inr, ⊎_elim, arith, Option, Some, None, slice_get, cond}
use Rattle.std.proofs.Common.{nat_lt, true, false, Bool}
use Rattle.std.proofs.Math.Decide.{ℕ_discrete, dec_lt}
use Rattle.std.proofs.lemmas.Option.{same_Some}
use Rattle.fish_catalog.specs.declared.entry.Entry.{Entry}
use Rattle.fish_catalog.specs.declared.entry.Entry.TheVariants as entry
use Rattle.fish_catalog.specs.declared.listed.Listed.{Listed}
use Rattle.fish_epoch.specs.Definitions.{rows_of, version_of}
use Rattle.fish_epoch.specs.declared.definitions.Known.{Known}
use Rattle.fish_lanes.proofs.Across.{parts_selected}
use Rattle.fish_lanes.proofs.Publishing.{settled_published}
use Rattle.fish_lang.specs.Definition.{Definition}
use Rattle.fish_lanes.specs.within.Doing.{FindsAcross, IsPlannedAt, IsRefusedAt, IsScanned}
use Rattle.fish_lanes.specs.within.Published.{IsPublished}
use Rattle.fish_lanes.specs.Scanning.{AreOpen, HasRows, HoldsSeen, IsAskedFor, IsAskedRange, IsRefusedFor, SaysPlan, SaysScan}
use Rattle.fish_lanes.specs.Spans.{Span}
use Rattle.fish_lanes.specs.within.Spans.{IsWithinSpan}
use Rattle.fish_plan.proofs.Inside.{index_inside, piece_within}
use Rattle.fish_plan.specs.Pieces.{one_full}
use Rattle.fish_plan.specs.declared.pieces.Piece.{Piece}
use Rattle.fish_plan.specs.declared.pieces.Piece.TheVariants.{Full, Index}
use Rattle.fish_psf.specs.Records.{evaluation}
use Rattle.fish_psf.specs.Select.{select}
use Rattle.fish_psf.specs.Select as log
use Rattle.fish_report.specs.declared.item.ScanCause.{ScanCause}
use Rattle.fish_report.specs.declared.item.ScanCause.TheVariants as cause
use Rattle.fish_rule.proofs.laws.ClosedLogs.{always_closed}
use Rattle.fish_rule.proofs.laws.Moments.{before_mark}
use Rattle.fish_rule.proofs.laws.Learning.{learns_both}
use Rattle.fish_rule.specs.Logs.{IsEntry, Learns, KnowsMark}
use Rattle.fish_rule.specs.Parts.{IsEntryWord}
use Rattle.fish_rule.specs.Regions.{code}
use Rattle.fish_rule.specs.Views.{Among}
use Rattle.fish_rule.specs.World.{high}
use Rattle.fish_rule.specs.declared.view.Key.{Key}
use Rattle.fish_rule.specs.declared.view.Kind.TheVariants.{Mark}
use Rattle.fish_rule.specs.declared.view.View.{View}
use Rattle.fish_rule.proofs.laws.Members.{at_among}
use Rattle.fish_scan.proofs.Selecting.{finds_selection}
use Rattle.fish_scan.specs.Laws.{IsSpelled}
use Rattle.fish_scan.specs.Matching.{Finds}
use Rattle.fish_scan.specs.Older.{selectable}
use Rattle.fish_scan.specs.Reach.{IsRange, Rise, end_of}
use Rattle.fish_scan.specs.Scans.{IsCovered, IsEmptyAsk, IsNamed, IsPlan, IsUncovered, first_asked}
use Rattle.fish_scan.specs.declared.ask.Ask.{Ask}
use Rattle.fish_scan.specs.declared.ask.How.{How}
use Rattle.fish_scan.specs.declared.ask.How.TheVariants as how
use Rattle.fish_value.specs.declared.field.Form.{Form}
use Rattle.fish_value.specs.declared.row.Row.{Row}
use Rattle.fish_whole.proofs.Entries.{entry_here, entry_there, sure_settled, word_there}
use Rattle.fish_whole.proofs.Wholes.{sure_rows}
use Rattle.fish_whole.specs.Whole.{MayHold, MustHold, Whole}
use Rattle.fish_whole.specs.within.Whole.{MustHoldUpTo}

-- ---- lists

-- the entries as a selection reads them
get_selected : (entries : List Entry) (n lane : ℕ) (form : Form) (payload : List ℕ)
    → slice_get (map selectable entries) n ≡ Some (log.stored lane form payload)
    → slice_get entries n ≡ Some (entry.Stored lane form payload)
get_selected [] n lane form payload at = absurd cc
get_selected (x ∷ entries) zero lane form payload at = ap Some (stored x (same_Some _ _ at))
  where
    stored : (x : Entry) → selectable x ≡ log.stored lane form payload → x ≡ entry.Stored lane form payload
    stored (entry.Stored l f p) e = cc
    stored entry.Void e = absurd cc
get_selected (x ∷ entries) (suc n) lane form payload at = get_selected entries n lane form payload at

selected_get : (entries : List Entry) (n : ℕ) (e : Entry) → slice_get entries n ≡ Some e
    → slice_get (map selectable entries) n ≡ Some (selectable e)
selected_get [] n e at = absurd cc
selected_get (x ∷ entries) zero e at = ap (λ (z : Entry). Some (selectable z)) (same_Some _ _ at)
selected_get (x ∷ entries) (suc n) e at = selected_get entries n e at

-- whether a number is among others
pub among_or : (n : ℕ) (ns : List ℕ) → Dec (Among n ns)
among_or n [] = no (λ m. elim m [ ])
among_or n (m ∷ ns) = pick (ℕ_discrete m n) (among_or n ns)
  where
    pick : Dec (m ≡ n) → Dec (Among n ns) → Dec (Among n (m ∷ ns))
    pick (yes e) d = yes (inl e)
    pick (no ne) (yes a) = yes (inr a)
    pick (no ne) (no none) = no (λ a. ⊎_elim (λ (e : m ≡ n). ne e) (λ (b : Among n ns). none b) a)

-- ---- ranges

-- the end that was asked for is not before the range's end
asked_end : (to : Option ℕ) (count last end : ℕ) → to ≡ Some end → last ≤ end_of to count → last ≤ end
asked_end None count last end e less = absurd cc
asked_end (Some to) count last end e less = (let same : to ≡ end = same_Some _ _ e in omega arith)

-- a number that was counted and asked for lies before the range's end, but for marks
before_end : (to : Option ℕ) (count n : ℕ) → n < count → ((end : ℕ) → to ≡ Some end → n < end) → n < end_of to count
before_end None count n less asked = omega arith
before_end (Some to) count n less asked = (let below = asked to refl in omega arith)

pub asked_range : (v u : View) (k : Span) (ask : Ask) (from to : ℕ) (opens : List ℕ) → IsWithinSpan v u k → ¬ IsEmptyAsk ask
    → IsRange v u (first_asked ask) ask.to from to opens → IsAskedRange k ask from to
asked_range v u k ask from to opens inside some range = record {
  some = some;
  begins = range.first_is;
  ends = λ end e. asked_end ask.to range.count to end e range.within;
  near = (let a = range.within in let b = range.claimed in let few = inside.near in omega arith);
}

-- numbers that rise lie in their range
pub rise_above : (low high n : ℕ) (ns : List ℕ) → Rise low high ns → Among n ns → low ≤ n
rise_above low high n [] up m = elim m [ ]
rise_above low high n (k ∷ ns) up (inl e) = (let a = up.0 in omega arith)
rise_above low high n (k ∷ ns) up (inr m) =
    (let a = up.0 in let b = rise_above (suc k) high n ns up.1 m in omega arith)

module _ (v u : View) (ask : Ask) (from to : ℕ) (opens : List ℕ) (range : IsRange v u (first_asked ask) ask.to from to opens)
    (on : Learns v u) (known : v.about.number ≤ v.learned.count) (past w : Whole) (m : MayHold past u w) where
  -- the table begins where the whole has what stood before it
  base_is : (m.last.about.number ≡ v.about.number) × (length past.log ≡ v.about.number)
  base_is =
      let same : m.last.about.number ≡ v.about.number = ap (λ (z : Key). z.number) (m.learns.about ∙ on.about) in
      (same, sym m.base ∙ same)

  -- a number of the table that is published and was asked for lies before the end
  before : (n : ℕ) → v.about.number ≤ n → IsPublished v n → IsAskedFor ask n → n < to
  before n above p asked = ⊎_elim
      (λ (e : to ≡ end_of ask.to range.count). let counted = p.counted in let known = range.known in
      let less : n < end_of ask.to range.count = before_end ask.to range.count n (omega arith) asked.below in omega arith)
      (λ (mark : KnowsMark u to × (u.about.number ≤ to)). let base = base_is.0 in
      let here : u.about.number ≡ v.about.number = ap (λ (z : Key). z.number) on.about in
      let first = mark.1 in
      before_mark m.closed.rule to n (omega arith)
      (always_closed u m.last (λ k x. high (x.dir to) ≡ code Mark) m.remains m.learns m.closed mark.0)
      (always_closed v m.last (λ k x. IsEntryWord (x.dir n)) m.remains (learns_both v u m.last on m.learns) m.closed p.entry))
      range.stops

  -- so does one below the table
  before_older : (n : ℕ) → n < v.about.number → IsAskedFor ask n → n < to
  before_older n below asked = ⊎_elim
      (λ (e : to ≡ end_of ask.to range.count). let counted = range.known in
      let less : n < end_of ask.to range.count = before_end ask.to range.count n (omega arith) asked.below in omega arith)
      (λ (mark : KnowsMark u to × (u.about.number ≤ to)).
      let here : u.about.number ≡ v.about.number = ap (λ (z : Key). z.number) on.about in
      let first = mark.1 in omega arith)
      range.stops

  -- and isn't open
  closed : (n : ℕ) → IsPublished v n → ¬ Among n opens
  closed n p o = (range.were n o).unknown p.entry

  -- so the range holds what is known to be published
  pub holds_all : (seen : ℕ → Type 0) → ((n : ℕ) → seen n → v.about.number ≤ n → IsPublished v n) → HoldsSeen w seen ask from to []
  holds_all seen published = record { each = λ n s within asked. pick n s asked (dec_lt n v.about.number) }
    where
      pick : (n : ℕ) → seen n → IsAskedFor ask n → Dec (n < v.about.number) → (from ≤ n) × (n < to) × ¬ Among n []
      pick n s asked (yes below) =
          let least = asked.above in
          let first = range.first_is in
          let less = before_older n below asked in
          (omega arith, less, λ o. elim o [ ])
      pick n s asked (no not_below) =
          let least = asked.above in
          let first = range.first_is in
          let less = before n (omega arith) (published n s (omega arith)) asked in
          (omega arith, less, λ o. elim o [ ])

  module _ (opened : (n : ℕ) → Among n opens → v.about.number ≤ n) where
    -- less the open numbers
    pub holds_seen : (seen : ℕ → Type 0) → ((n : ℕ) → seen n → v.about.number ≤ n → IsPublished v n)
        → HoldsSeen w seen ask from to opens
    holds_seen seen published = record {
      each = λ n s within asked.
          let h = (holds_all seen published).each n s within asked in
          (h.0, h.1, λ o. closed n (published n s (opened n o)) o);
    }

    -- the open numbers
    pub open_numbers : (k : Span) → IsWithinSpan v u k → k.to ≤ length past.log + length m.remains.log
        → AreOpen k.from k.to w.log from to opens
    open_numbers k inside far = record {
      rise = range.rise;
      first = λ n o. pick_first n o (dec_lt n k.from);
      latest = λ i j lane f g p q at more within below at_i at_j.
          let base = base_is.1 in
          let above = opened j at in
          always_closed u m.last (λ k x. IsEntry x i (entry.Stored lane f p) → ¬ IsEntry x j (entry.Stored lane g q)) m.remains
          m.learns m.closed (range.latest i j lane f g p q at more within)
          (entry_there past u w m i (entry.Stored lane f p) (omega arith) (omega arith) at_i)
          (entry_there past u w m j (entry.Stored lane g q) (omega arith) (omega arith) at_j);
      behind = λ n above below past_end. pick n above below past_end (among_or n opens);
    }
      where
        pick_first : (n : ℕ) → Among n opens → Dec (n < k.from) → k.from ≤ n
        pick_first n o (no not_less) = omega arith
        pick_first n o (yes less) =
            let above = opened n o in
            let settled = inside.settled in
            let counted = inside.counted in
            absurd (closed n (settled_published v n (omega arith) (omega arith) (omega arith)) o)

        pick : (n : ℕ) → from ≤ n → n < to → k.to ≤ n → Dec (Among n opens) → Among n opens
        pick n above below past_end (yes o) = o
        pick n above below past_end (no none) =
            let base = inside.above in
            let settled = inside.settled in
            let more = on.settled in
            let stored = inside.stored in
            let less = inside.entries n (range.others n (omega arith) above below none) in
            absurd (omega arith)

    -- where the part of the range begins that is in the table
    abbrev pub first_here : ℕ
    first_here = min (max from v.about.number) to

    -- in the moment of the close the words spell the entries of the whole in that part
    spelled : IsSpelled m.closed.moment first_here to opens (map selectable w.log)
    spelled n lane form payload above below free = (
      λ at.
          let base = base_is.1 in
          entry_there past u w m n (entry.Stored lane form payload) (omega arith)
          (word_there past u w m n (omega arith) (range.others n (omega arith) (omega arith) below free))
          (get_selected w.log n lane form payload at),
      λ is.
          let base = base_is.1 in
          selected_get w.log n (entry.Stored lane form payload)
          (entry_here past u w m n (entry.Stored lane form payload) (omega arith) is),
    )

    -- and the rows there are the selection of them
    upper_selected : (a : Definition) (rows : List Row) → Finds u a ask.value first_here to opens rows
        → rows ≡ select (map selectable w.log) (evaluation a) ask.value first_here to opens
    upper_selected a rows finds =
        always_closed u m.last (λ k x. (l : List log.Entry) → IsSpelled x first_here to opens l
        → rows ≡ select l (evaluation a) ask.value first_here to opens) m.remains m.learns m.closed
        (finds_selection u a ask.value first_here to opens rows finds) (map selectable w.log) spelled

    -- with those from before the table the rows are the selection of the whole
    pub rows_selected : (a : Definition) (rows : List Row) → FindsAcross past u a ask.value from to opens rows
        → rows ≡ select (map selectable w.log) (evaluation a) ask.value from to opens
    rows_selected a rows f =
        let size = base_is.1 in
        let same : u.about.number ≡ v.about.number = ap (λ (z : Key). z.number) on.about in
        let base : u.about.number ≡ length past.log = same ∙ sym size in
        let upper : f.upper ≡ select (map selectable w.log) (evaluation a) ask.value (min (max from (length past.log)) to) to opens =
        upper_selected a f.upper (subst (λ (n : ℕ). Finds u a ask.value (min (max from n) to) to opens f.upper) same f.above)
        ∙ ap (λ (n : ℕ). select (map selectable w.log) (evaluation a) ask.value (min (max from n) to) to opens) (sym size) in
        let lower : f.lower ≡ select (map selectable past.log) (evaluation a) ask.value from (min to (length past.log)) [] =
        f.below ∙ ap (λ (n : ℕ). select (map selectable past.log) (evaluation a) ask.value from (min to n) []) base in
        f.rows_are ∙ (λ i. upper i ++ lower i)
        ∙ parts_selected w.log past.log (m.remains.log ++ m.behind.starts.0)
        (m.behind.starts.1 ∙ append_assoc past.log m.remains.log m.behind.starts.0) (evaluation a) ask.value from to opens
        (λ n o. let above = opened n o in omega arith)

-- what a scan showed is published
pub range_published : (v u : View) (ask : Ask) (from to : ℕ) (opens : List ℕ) (n : ℕ)
    → IsRange v u (first_asked ask) ask.to from to opens → v.about.number ≤ n → from ≤ n → n < to → ¬ Among n opens
    → IsPublished u n
range_published v u ask from to opens n range low above below closed = record {
  counted = (let a = range.within in let b = range.claimed in omega arith);
  entry = range.others n low above below closed;
}

-- ---- names

-- the rows of a version are those of the whole
pub has_rows : (past : Whole) (v u : View) (known : Known) (ask : Ask) (position version : ℕ) (k : Span) → IsWithinSpan v u k
    → version ≡ version_of known → IsNamed v u known ask position → MustHold past u (λ w. HasRows w k version (rows_of known))
has_rows past v u known ask position version k inside is named w m = record {
  least = (let least = named.least in let first = inside.first in omega arith);
  most = (let most = named.read.rows.reached in let last = inside.last in omega arith);
  are = ap w.rows is ∙ sure_rows past u (version_of known) (rows_of known) named.read.rows w m;
}

-- that version is one that the pass loaded in the call
pub named_version : (v u : View) (known : Known) (ask : Ask) (version position : ℕ) → version ≡ version_of known
    → IsNamed v u known ask position → (v.learned.version ≤ version) × (version ≤ u.learned.version)
named_version v u known ask version position is named =
    (let least = named.least in let most = named.read.rows.reached in (omega arith, omega arith))

-- ---- plans

-- a plan by reading number by number is one piece
plan_full : (v u : View) (rows : List Listed) (text : List ℕ) (way : How) (from settled to : ℕ) (plan : List Piece)
    → IsPlan v u rows text way from settled to plan → way ≡ how.Full → plan ≡ one_full from to
plan_full v u rows text way from settled to plan h is =
    subst (λ (z : How). IsPlan v u rows text z from settled to plan) is h

-- a plan of one full piece has none by an index
pub no_index : (from to position id begin end : ℕ) (b : Bool)
    → ¬ (slice_get (cond b (Full from to ∷ []) []) position ≡ Some (Index id begin end))
no_index from to zero id begin end true at = cc
no_index from to (suc n) id begin end true at = cc
no_index from to position id begin end false at = cc

-- a piece by an index is below what is settled, and by one of a row with the text
cover_indexed : (v u : View) (rows : List Listed) (text : List ℕ) (from settled to : ℕ) (plan : List Piece)
    → IsCovered v u rows text from settled to plan → (position id begin end : ℕ) → slice_get plan position ≡ Some (Index id begin end)
    → (end ≤ settled) × ((row : Listed) × (slice_get rows id ≡ Some row) × (row.def ≡ text))
cover_indexed v u rows text from settled to plan h position id begin end there =
    let i = index_inside plan from settled to h.intervals h.cover position id begin end there in
    let x = h.are.each i.4 (at_among h.intervals i.3 i.4 i.5) in
    (i.1, (x.row, ap (slice_get rows) (sym i.6) ∙ x.there, x.text_is))

plan_indexed : (v u : View) (rows : List Listed) (text : List ℕ) (way : How) (from settled to : ℕ) (plan : List Piece)
    → IsPlan v u rows text way from settled to plan → (position id begin end : ℕ) → slice_get plan position ≡ Some (Index id begin end)
    → (end ≤ settled) × ((row : Listed) × (slice_get rows id ≡ Some row) × (row.def ≡ text))
plan_indexed v u rows text how.Full from settled to plan h position id begin end there =
    absurd (no_index from to position id begin end (nat_lt from to) (subst (λ (z : List Piece). slice_get z position
    ≡ Some (Index id begin end)) h there))
plan_indexed v u rows text how.Auto from settled to plan h position id begin end there =
    cover_indexed v u rows text from settled to plan h position id begin end there
plan_indexed v u rows text how.Index from settled to plan h position id begin end there =
    cover_indexed v u rows text from settled to plan h.0 position id begin end there

-- ---- what is told

module _ (v u : View) (ask : Ask) (on : Learns v u) (seen : ℕ → Type 0)
    (published : (n : ℕ) → seen n → v.about.number ≤ n → IsPublished v n) (k : Span) (inside : IsWithinSpan v u k) (past : Whole) where
  -- the pass had counted what stood before the table
  older_counted : v.about.number ≤ v.learned.count
  older_counted = (let above = inside.above in let counted = inside.counted in omega arith)

  -- a scan
  pub scan_told : (Past : Whole → Type 0) → Past past → (from to : ℕ) (opens : List ℕ) (rows : List Row) (version : ℕ)
      → IsScanned Past v u ask from to opens rows version → MustHoldUpTo past u k.to (λ w. SaysScan w k seen ask from to opens rows version)
  scan_told Past behind from to opens rows version s w m far =
      let a = s.answer past behind in
      let e = a.planned in
      let opened : (n : ℕ) → Among n opens → v.about.number ≤ n =
      λ n o. subst (λ (z : Key). z.number ≤ n) on.about (s.opened n o) in
      record {
        range = asked_range v u k ask from to opens inside e.asked.some e.range;
        def = a.def;
        means = record {
          rows = rows_of s.known;
          has = has_rows past v u s.known ask e.position version k inside s.version_is e.asked.named w m;
          position = e.position;
          newest = e.asked.named.newest;
          accepted = a.means;
        };
        rows_are = rows_selected v u ask from to opens e.range on older_counted past w m opened a.def rows a.found;
        holds = holds_seen v u ask from to opens e.range on older_counted past w m opened seen published;
        are_open = open_numbers v u ask from to opens e.range on older_counted past w m opened k inside far;
      }

  -- a plan
  pub plan_told : (from to : ℕ) (plan : List Piece) (version : ℕ) → IsPlannedAt v u ask from to plan version
      → MustHold past u (λ w. SaysPlan w k seen ask from to plan version)
  plan_told from to plan version s w m =
      let e = s.explained.planned in
      record {
        range = asked_range v u k ask from to s.opens inside e.asked.some e.range;
        rows = rows_of s.known;
        has = has_rows past v u s.known ask e.position version k inside s.version_is e.asked.named w m;
        position = e.position;
        newest = e.asked.named.newest;
        holds = holds_all v u ask from to s.opens e.range on older_counted past w m seen published;
        fill = s.explained.fill;
        full = plan_full v u _ _ ask.how from e.settled to plan e.plan_is;
        indexed = λ at id begin end there.
            let i = plan_indexed v u (rows_of s.known) _ ask.how from e.settled to plan e.plan_is at id begin end there in
            let most = e.most in
            let below = i.0 in
            (sure_settled past u end (omega arith) w m, i.1);
      }

  -- a gap below what was settled
  gap_told : (from to : ℕ) (known : Known) → IsUncovered v u known ask from to
      → MustHold past u (λ w. (from < to) × (to ≤ k.to) × (first_asked ask ≤ from) × ((end : ℕ) → ask.to ≡ Some end → to ≤ end))
  gap_told from to known h w m =
      let p = piece_within h.plan h.first h.last h.gap.position (Full from to) h.covered.cover.fill h.gap.gap.there in
      let some_ = p.1 in
      let above = p.0 in
      let below = p.2 in
      let first = h.range.first_is in
      let under = h.gap.gap.below in
      let most = h.most in (
        omega arith,
        let stored = inside.stored in omega arith,
        omega arith,
        λ end e. let a = asked_end ask.to h.range.count h.last end e h.range.within in omega arith,
      )

  -- a refusal
  pub refused_told : (version : ℕ) (why : ScanCause) → IsRefusedAt v u ask version why
      → MustHold past u (λ w. IsRefusedFor w k ask version why)
  refused_told version cause.UnknownName s w m =
      let r = s.refused in (
        rows_of s.known,
        record {
          least = (let least = r.4 in let first = inside.first in omega arith);
          most = (let most = r.2.rows.reached in let last = inside.last in omega arith);
          are = ap w.rows s.version_is ∙ sure_rows past u (version_of s.known) (rows_of s.known) r.2.rows w m;
        },
        r.3,
      )
  refused_told version (cause.EmptyRange from to) s w m =
      let named = s.refused.1 in (
        s.refused.0,
        (
          rows_of s.known,
          has_rows past v u s.known ask named.0 version k inside s.version_is named.1 w m,
          (named.0, named.1.newest),
        ),
      )
  refused_told version (cause.NotCovered from to) s w m =
      let g = gap_told from to s.known s.refused.1 w m in
      (s.refused.0, g.0, g.1, g.2, g.3)
