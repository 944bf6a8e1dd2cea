-- What a block of one lane tells besides, and one statement that is all of it.
use Rattle.std.proofs.Common.{◌≡◌, ℕ, ◌<◌, ◌≤◌, List, [], ◌∷◌, ◌++◌, length, refl, sym, ap, ◌∙◌, subst, inl, inr}
use Rattle.std.proofs.Common.{⊎_elim, arith, append-nil, map, slice_get, Option, None, Result, Ok, Err}
use Rattle.std.specs.Prelude.{IfOk}
use Rattle.std.proofs.Math.Decide.{dec_lt}
use Rattle.fish_catalog.specs.Listing.{listed_of}
use Rattle.fish_catalog.specs.declared.listed.Listed.{Listed}
use Rattle.fish_catalog.specs.declared.row.CatRow.{CatRow}
use Rattle.fish_epoch.proofs.Reading.{knows_later}
use Rattle.fish_epoch.specs.Definitions.{rows_of, version_of}
use Rattle.fish_epoch.specs.declared.definitions.Known.{Known}
use Rattle.fish_lanes.proofs.Covering.{cover_by}
use Rattle.fish_lanes.specs.within.Controlling.{SaysTail}
use Rattle.fish_lanes.specs.within.Doing.{FitsExplained, FitsRefused, FitsScanned, IsFit, IsRefusedAt}
use Rattle.fish_lanes.specs.Ending.{EndsAlone}
use Rattle.fish_lanes.specs.Loading.{LoadsAcross, LoadsInTable, LoadsWithin}
use Rattle.fish_lanes.specs.within.Plans.{AreBoundsIn, AreReadBounds}
use Rattle.fish_lanes.specs.Registering.{KnowsRegistry, Registry}
use Rattle.fish_lanes.specs.within.Running.{IsFree}
use Rattle.fish_lanes.specs.Single.{IsBoundaryAt, IsCauseAt, IsCauseSaid, IsCoverOf, IsPlanFor, IsPlanSaid, IsReadBy, IsScanWork}
use Rattle.fish_lanes.specs.Single.{IsWholeAnswer, NamesNone, SaysOnly, SaysSingle, SaysWhole}
use Rattle.fish_lanes.specs.Spans.{answers}
use Rattle.fish_lanes.specs.declared.work.Work.{Work}
use Rattle.fish_lanes.specs.declared.work.Work.TheVariants as work
use Rattle.fish_plan.specs.Cover.{IsCover}
use Rattle.fish_plan.specs.Gaps.{HasGap, IsFirstGap}
use Rattle.fish_plan.specs.declared.pieces.Piece.{Piece}
use Rattle.fish_report.specs.declared.item.Item.{Item}
use Rattle.fish_report.specs.declared.item.Item.TheVariants as item
use Rattle.fish_report.specs.declared.item.ScanCause.{ScanCause}
use Rattle.fish_report.specs.declared.item.ScanCause.TheVariants as cause
use Rattle.fish_registry.proofs.Changing.{learns_changes}
use Rattle.fish_registry.specs.Changing.{Changes, IsAtTail}
use Rattle.fish_rule.proofs.laws.Alone.{no_mark}
use Rattle.fish_rule.proofs.laws.Learning.{learns_both}
use Rattle.fish_rule.specs.Logs.{Learns, KnowsMark}
use Rattle.fish_rule.specs.LoadSteps.{IsAlone}
use Rattle.fish_rule.proofs.laws.Versions.{has_read}
use Rattle.fish_rule.specs.Registry.{definitions_at}
use Rattle.fish_rule.specs.Table.{IsOfMoment}
use Rattle.fish_rule.specs.Views.{AllOf}
use Rattle.fish_rule.specs.World.{high, low}
use Rattle.fish_rule.specs.declared.view.Key.{Key}
use Rattle.fish_rule.specs.declared.view.View.{View}
use Rattle.fish_scan.proofs.OlderLoads.{all_older_later}
use Rattle.fish_scan.proofs.Working.{all_allowed_later}
use Rattle.fish_scan.specs.Below.{AreOlderAllowed}
use Rattle.fish_scan.specs.Cutting.{pieces_above, pieces_below}
use Rattle.fish_scan.specs.Naming.{IsNewestListed}
use Rattle.fish_scan.specs.Reach.{IsExact, IsRange, end_of}
use Rattle.fish_scan.specs.Scans.{IsCovered, IsNamed, IsPlan, IsPlanned, IsUncovered, first_asked}
use Rattle.fish_scan.specs.Work.{AreAllowed, IsWork}
use Rattle.fish_scan.specs.declared.ask.Answer.{Answer}
use Rattle.fish_scan.specs.declared.ask.Ask.{Ask}
use Rattle.fish_scan.specs.declared.ask.How.{How}
use Rattle.fish_scan.specs.declared.ask.How.TheVariants as how
use Rattle.fish_value.specs.declared.row.Row.{Row}
use Rattle.fish_value.specs.declared.value.Value.{Value}
use Rattle.fish_walk.specs.Looks.{IsTailCount}
use Rattle.fish_walk.specs.Settling.{EndsAt, OnlySettles}
use Rattle.fish_whole.specs.Whole.{Whole}

-- ---- loads

-- whatever counter was handed in, the pass's own count rose by no more
pub loads_own : {E : Type 0} (v u : View) (value : Value) (old new : ℕ) (r : Result Answer E)
    → IfOk r (λ a. IsWork v u value a old new) → IfOk r (LoadsInTable v u value)
loads_own v u value old new (Ok a) h = record { most = h.most; allowed = h.allowed; few = h.rises.own }
loads_own v u value old new (Err e) h = tt

-- after the scan nothing more was loaded
table_later : (v u t : View) (value : Value) (answer : Answer) → Learns u t → t.clock.loads ≡ u.clock.loads
    → LoadsInTable v u value answer → LoadsInTable v t value answer
table_later v u t value answer after still h =
    let few = h.few in
    record {
      most = h.most;
      allowed = subst (λ (z : List Row). AreAllowed t value answer.opens z answer.plan h.most) (append-nil answer.rows)
          (all_allowed_later u t value answer.opens answer.rows [] answer.plan h.most after h.allowed);
      few = omega arith;
    }

-- neither of the table nor of what leads to older records
across_later : (past : Whole) (v u t : View) (value : Value) (answer : Answer) → Learns u t → t.clock.loads ≡ u.clock.loads
    → LoadsAcross past v u value answer → LoadsAcross past v t value answer
across_later past v u t value answer after still h =
    let few = h.few in
    record {
      base = h.base;
      base_is = h.base_is ∙ ap (λ (k : Key). k.number) (sym after.about);
      image = h.image;
      end = h.end;
      prior = h.prior;
      entries = h.entries;
      most = h.most;
      allowed = subst (λ (z : List Row). AreAllowed t value answer.opens z (pieces_above h.base answer.plan) h.most)
          (append-nil answer.rows)
          (all_allowed_later u t value answer.opens answer.rows [] (pieces_above h.base answer.plan) h.most after h.allowed);
      walked = h.walked;
      older = h.older;
      allowed_older = subst (λ (z : List Row). AreOlderAllowed h.prior t value z (pieces_below h.base answer.plan) h.walked h.older)
          (append-nil answer.rows)
          (all_older_later h.prior u t value answer.rows [] (pieces_below h.base answer.plan) h.walked h.older after h.allowed_older);
      few = omega arith;
    }

-- nor of either
loads_later : {Past : Whole → Type 0} (v u t : View) (value : Value) (answer : Answer) → Learns u t → t.clock.loads ≡ u.clock.loads
    → LoadsWithin Past v u value answer → LoadsWithin Past v t value answer
loads_later v u t value answer after still (inl h) = inl (table_later v u t value answer after still h)
loads_later v u t value answer after still (inr h) = inr (λ past behind. across_later past v u t value answer after still (h past behind))

-- ---- the end of the log

ends_within : (u : View) (n count : ℕ) → EndsAt u n count → n ≤ count
ends_within u n count h =
    ⊎_elim (λ (e : n ≡ count). omega arith) (λ (m : (n < count) × KnowsMark u n). let less = m.0 in omega arith) h

-- the settled number that a pass finds which is alone is where the log ended
same_end : (v u : View) (end settled count : ℕ) → EndsAlone v end → Learns v u → IsOfMoment u → v.learned.settled ≤ settled
    → settled ≤ u.learned.settled → IsTailCount count v.tail → EndsAt u settled count → settled ≡ end
same_end v u end settled count h learns s least most counted ends =
    let tail = h.tail in
    let same : high tail.0 ≡ count = subst (IsTailCount count) tail.1 counted in
    let known : high tail.0 ≡ h.count = tail.2 in
    let low = h.settled in
    let up = ends_within u settled count ends in
    ⊎_elim (λ (e : end ≡ h.count). omega arith)
    (λ (m : (end < h.count) × KnowsMark v end). pick m.1 (dec_lt end settled)) h.ends
  where
    pick : KnowsMark v end → Dec (end < settled) → settled ≡ end
    pick mark (no not_less) = (let low = h.settled in omega arith)
    pick mark (yes inside) =
        let floor = s.rule.floors s.seat u s.at in
        let same : u.about.number ≡ v.about.number = ap (λ (z : Key). z.number) learns.about in
        let above = h.above in
        absurd ((s.rule.settling.below end (omega arith) (omega arith)).unmarked (mark u learns s.moment s.rule s.seat s.at))

-- so is that of a scan
exact_end : (v u : View) (end settled count last : ℕ) (to : Option ℕ) (opens : List ℕ) → EndsAlone v end → Learns v u → IsOfMoment u
    → v.learned.settled ≤ settled → settled ≤ u.learned.settled → IsExact v u to count settled last opens → settled ≡ end
exact_end v u end settled count last to opens h learns s least most x =
    same_end v u end settled count h learns s least most x.counted x.ends

-- ---- items

module _ (v u : View) (end : ℕ) (h : EndsAlone v end) (learns : Learns v u) (s : IsOfMoment u) where
  -- the range is all that is asked for
  whole_at : (ask : Ask) (from to settled : ℕ) (opens : List ℕ) (r : IsRange v u (first_asked ask) ask.to from to opens)
      → settled ≡ end → IsExact v u ask.to r.count settled to opens → IsWholeAnswer ask end from to
  whole_at ask from to settled opens r same x =
      record { begins = r.first_is; ends = subst (λ (z : ℕ). to ≡ end_of ask.to z) same x.last_is }

  -- the tail is where the log ends, unless it is full
  tail_end : (n : ℕ) → IsOfMoment v → v.shut ≡ None → IsAtTail v n → n ≡ end
  tail_end n stood unshut at =
      let tail = h.tail in
      let here = at (record { number = high tail.0; line = low tail.0 }) tail.1 in
      let same = tail.2 in
      ⊎_elim (λ (e : end ≡ h.count). omega arith)
      (λ (m : (end < h.count) × KnowsMark v end). absurd (no_mark v end stood h.alone unshut h.above m.1))
      h.ends

  boundary_at : (x : Item) → IsOfMoment v → SaysTail v x → IsBoundaryAt v.shut end x
  boundary_at (item.Registered name id from def) stood at = λ unshut. tail_end from stood unshut at
  boundary_at (item.Deregistered name id to) stood at = λ unshut. tail_end to stood unshut at
  boundary_at x stood at = tt

  module _ (r : Registry) (read : AreReadBounds v r.rows) (registry : KnowsRegistry v r) (bounds : AreBoundsIn u r.rows)
      (version : u.learned.version ≡ r.version) where
    -- the definitions that were loaded are the rows
    rows_are : (known : Known) (ask : Ask) (position : ℕ) → IsNamed v u known ask position → rows_of known ≡ map listed_of r.rows
    rows_are known ask position n =
        let low = registry.reached in
        let least = n.least in
        let most = n.read.rows.reached in
        let is : version_of known ≡ r.version = omega arith in
        let g = s.moment.registry in
        let has = has_read u.about g u.learned.words (s.rule.registry.each s.seat u s.at).read in
        sym (n.read.rows.are g has) ∙ ap (definitions_at u.about g) is
        ∙ (knows_later v u r.version (map listed_of r.rows) learns registry).are g has

    newest_at : (definitions : List Listed) (ask : Ask) (position : ℕ) → definitions ≡ map listed_of r.rows
        → IsNewestListed definitions ask.name position → IsNewestListed (map listed_of r.rows) ask.name position
    newest_at definitions ask position same n = record {
      listed = n.listed;
      there = ap (λ (z : List Listed). slice_get z position) (sym same) ∙ n.there;
      named = n.named;
      last = λ i l less at. n.last i l less (ap (λ (z : List Listed). slice_get z i) same ∙ at);
    }

    cover_at : (definitions : List Listed) (text : List ℕ) (from settled to : ℕ) (plan : List Piece)
        → definitions ≡ map listed_of r.rows → settled ≡ end → IsCovered v u definitions text from settled to plan
        → IsCoverOf r.rows text from end to plan
    cover_at definitions text from settled to plan same ends c xs of =
        subst (λ (z : ℕ). IsCover plan from z to xs) ends
        (cover_by v u r.rows definitions text from settled to plan read same bounds c xs of)

    read_by : (way : How) (definitions : List Listed) (text : List ℕ) (from settled to : ℕ) (plan : List Piece)
        → definitions ≡ map listed_of r.rows → settled ≡ end → IsPlan v u definitions text way from settled to plan
        → IsReadBy r.rows text way from end to plan
    read_by how.Full definitions text from settled to plan same ends p = p
    read_by how.Auto definitions text from settled to plan same ends p =
        cover_at definitions text from settled to plan same ends p
    read_by how.Index definitions text from settled to plan same ends p = (
      cover_at definitions text from settled to plan same ends p.0,
      subst (λ (z : ℕ). ¬ HasGap plan z) ends p.1,
    )

    plan_for : (known : Known) (ask : Ask) (from to : ℕ) (opens : List ℕ) (plan : List Piece)
        → IsPlanned v u known ask from to opens plan → IsPlanFor r.rows ask end from to plan
    unfolding newest_at
    plan_for known ask from to opens plan e =
        let exact = e.exact h.alone in
        let same = exact_end v u end e.settled e.range.count to ask.to opens h learns s e.least e.most exact in
        let are = rows_are known ask e.position e.asked.named in
        record {
          whole = whole_at ask from to e.settled opens e.range same exact;
          position = e.position;
          newest = newest_at (rows_of known) ask e.position are e.asked.named.newest;
          is = read_by ask.how (rows_of known) e.asked.named.newest.listed.def from e.settled to plan are same e.plan_is;
        }

    scan_work : {Past : Whole → Type 0} (ask : Ask) (x : Item) → FitsScanned Past v u ask x → IsScanWork Past v u r.rows end ask x
    scan_work ask x f =
        let a = f.fits in
        let e = a.planned in
        record {
          answer = record { from = f.from; to = f.to; opens = f.opens; rows = f.rows; plan = a.plan };
          version = f.version;
          is = f.is;
          closed = (e.exact h.alone).closed;
          plan = plan_for a.known ask f.from f.to f.opens a.plan e;
          loads = a.loads;
        }

    plan_told_at : (ask : Ask) (x : Item) → FitsExplained v u ask x → IsPlanSaid r.rows end ask x
    plan_told_at ask x f = record {
      explained = record { from = f.from; to = f.to; plan = f.plan };
      version = f.version;
      is = f.is;
      plan = plan_for f.fits.known ask f.from f.to f.fits.opens f.plan f.fits.explained.planned;
    }

    cause_at : (ask : Ask) (version : ℕ) (why : ScanCause) → IsRefusedAt v u ask version why → IsCauseAt r.rows end ask why
    unfolding newest_at
    cause_at ask version cause.UnknownName f = tt
    cause_at ask version (cause.EmptyRange from to) f = tt
    cause_at ask version (cause.NotCovered from to) f =
        let g : IsUncovered v u f.known ask from to = f.refused.1 in
        let exact = g.exact h.alone in
        let same = exact_end v u end g.settled g.range.count g.last ask.to g.opens h learns s g.least g.most exact in
        let are = rows_are f.known ask g.position g.asked.named in
        record {
          position = g.position;
          newest = newest_at (rows_of f.known) ask g.position are g.asked.named.newest;
          first = g.first;
          last = g.last;
          whole = whole_at ask g.first g.last g.settled g.opens g.range same exact;
          plan = g.plan;
          cover = cover_at (rows_of f.known) g.asked.named.newest.listed.def g.first g.settled g.last g.plan are same g.covered;
          gap = subst (λ (z : ℕ). IsFirstGap g.plan z from to) same g.gap;
        }

    told_at : (ask : Ask) (refused : List ℕ → ℕ → ScanCause → Item) (x : Item) → FitsRefused v u ask refused x
        → IsCauseSaid r.rows end ask refused x
    told_at ask refused x f =
        record { version = f.version; why = f.why; is = f.is; tells = cause_at ask f.version f.why f.fits }

    -- what fits a statement that changes no definition tells this
    pub fit_free : (Past : Whole → Type 0) (w : Work) (x : Item) → IsFree w → IsFit Past v u w x → SaysSingle Past v u r.rows end w x
    fit_free Past (work.Scan ask) x free (inl f) = inl (scan_work ask x f)
    fit_free Past (work.Scan ask) x free (inr f) = inr (told_at ask item.ScanRefused x f)
    fit_free Past (work.Explain ask) x free (inl f) = inl (plan_told_at ask x f)
    fit_free Past (work.Explain ask) x free (inr f) = inr (told_at ask item.ExplainRefused x f)
    fit_free Past work.Checkpoint x free f =
        let e = f.exact h.alone in
        f.is ∙ ap item.Checkpointed (same_end v u end f.count e.0 h learns s f.above f.settled e.1 e.2)
    fit_free Past (work.Ingest form begin name file) x free f = tt
    fit_free Past (work.Register name def) x free f = elim free [ ]
    fit_free Past (work.Deregister name) x free f = elim free [ ]

  -- and so does what fits any
  pub fit_single : (Past : Whole → Type 0) (w : Work) (x : Item) (r : Registry) → IsOfMoment v → AreReadBounds v r.rows → KnowsRegistry v r
      → (IsFree w → AreBoundsIn u r.rows × (u.learned.version ≡ r.version)) → SaysTail v x → IsFit Past v u w x
      → SaysSingle Past v u r.rows end w x
  fit_single Past (work.Register name def) x r stood read registry free at f = boundary_at x stood at
  fit_single Past (work.Deregister name) x r stood read registry free at f = boundary_at x stood at
  fit_single Past (work.Ingest form begin name file) x r stood read registry free at f = tt
  fit_single Past (work.Scan ask) x r stood read registry free at f =
      fit_free r read registry (free tt).0 (free tt).1 Past (work.Scan ask) x tt f
  fit_single Past (work.Explain ask) x r stood read registry free at f =
      fit_free r read registry (free tt).0 (free tt).1 Past (work.Explain ask) x tt f
  fit_single Past work.Checkpoint x r stood read registry free at f =
      fit_free r read registry (free tt).0 (free tt).1 Past work.Checkpoint x tt f

-- ---- later

module _ (v u t : View) (rows : List CatRow) (end : ℕ) (learns : Learns u t) (still : t.clock.loads ≡ u.clock.loads) where
  -- what was told is so of the pass where it knows more and loaded nothing since
  single_later : (Past : Whole → Type 0) (w : Work) (x : Item) → SaysSingle Past v u rows end w x → SaysSingle Past v t rows end w x
  single_later Past (work.Scan ask) x (inl h) = inl (record {
    answer = h.answer;
    version = h.version;
    is = h.is;
    closed = h.closed;
    plan = h.plan;
    loads = loads_later v u t ask.value h.answer learns still h.loads;
  })
  single_later Past (work.Scan ask) x (inr h) = inr h
  single_later Past (work.Explain ask) x h = h
  single_later Past work.Checkpoint x h = h
  single_later Past (work.Register name def) x h = h
  single_later Past (work.Deregister name) x h = h
  single_later Past (work.Ingest form begin name file) x h = tt

  pub singles_later : (Past : Whole → Type 0) (w : Work) (items : List Item) → AllOf (SaysSingle Past v u rows end w) items
      → AllOf (SaysSingle Past v t rows end w) items
  singles_later Past w [] h = tt
  singles_later Past w (x ∷ items) h = (single_later Past w x h.0, singles_later Past w items h.1)

  pub only_later : (Past : Whole → Type 0) (works : List Work) (items : List Item) → SaysOnly Past v u rows end works items
      → SaysOnly Past v t rows end works items
  only_later Past works items h w one = singles_later Past w (answers items) (h w one)

-- ---- fewer pasts

module _ (P Q : Whole → Type 0) (v u : View) (rows : List CatRow) (end : ℕ) (fewer : (past : Whole) → Q past → P past) where
  -- what is told after some pasts is told after each of these
  single_fewer : (w : Work) (x : Item) → SaysSingle P v u rows end w x → SaysSingle Q v u rows end w x
  single_fewer (work.Scan ask) x (inl h) = inl (record {
    answer = h.answer;
    version = h.version;
    is = h.is;
    closed = h.closed;
    plan = h.plan;
    loads = ⊎_elim (λ (one : LoadsInTable v u ask.value h.answer). inl one)
        (λ (each : (past : Whole) → P past → LoadsAcross past v u ask.value h.answer). inr (λ past behind. each past (fewer past behind)))
        h.loads;
  })
  single_fewer (work.Scan ask) x (inr h) = inr h
  single_fewer (work.Explain ask) x h = h
  single_fewer work.Checkpoint x h = h
  single_fewer (work.Register name def) x h = h
  single_fewer (work.Deregister name) x h = h
  single_fewer (work.Ingest form begin name file) x h = tt

  singles_fewer : (w : Work) (items : List Item) → AllOf (SaysSingle P v u rows end w) items → AllOf (SaysSingle Q v u rows end w) items
  singles_fewer w [] h = tt
  singles_fewer w (x ∷ items) h = (single_fewer w x h.0, singles_fewer w items h.1)

  pub only_fewer : (works : List Work) (items : List Item) → SaysOnly P v u rows end works items → SaysOnly Q v u rows end works items
  only_fewer works items h w one = singles_fewer w (answers items) (h w one)

-- ---- open numbers

-- a pass that is alone is so after a step on the definitions
pub alone_changes : (u p : View) → Changes u p → IsAlone u → IsAlone p
alone_changes u p changes alone = record {
  control = ap (λ (z : View). z.lane) changes.frame ∙ alone.control;
  all = ap (λ (z : View). z.out) changes.frame ∙ alone.all;
  idle = ap (λ (z : View). z.flight) changes.frame ∙ alone.idle;
}

-- its items name no open number and no other lane
pub fit_closed : (Past : Whole → Type 0) (v u : View) (w : Work) (x : Item) → IsFree w → IsAlone v → IsFit Past v u w x → NamesNone x
fit_closed Past v u (work.Register name def) x free a f = elim free [ ]
fit_closed Past v u (work.Deregister name) x free a f = elim free [ ]
fit_closed Past v u (work.Ingest form begin name file) x free a (inl f) = subst NamesNone (sym f.is) tt
fit_closed Past v u (work.Ingest form begin name file) x free a (inr (inl f)) = subst NamesNone (sym f.is) tt
fit_closed Past v u (work.Ingest form begin name file) x free a (inr (inr f)) = subst NamesNone (sym f.is) tt
fit_closed Past v u (work.Scan ask) x free a (inl f) =
    subst NamesNone (sym f.is) (f.fits.planned.exact a).closed
fit_closed Past v u (work.Scan ask) x free a (inr f) = subst NamesNone (sym f.is) tt
fit_closed Past v u (work.Explain ask) x free a (inl f) = subst NamesNone (sym f.is) tt
fit_closed Past v u (work.Explain ask) x free a (inr f) = subst NamesNone (sym f.is) tt
fit_closed Past v u work.Checkpoint x free a f = subst NamesNone (sym f.is) tt

-- ---- lists of one statement

-- a list with something in it isn't empty
pub some_there : (works : List Work) (w : Work) (later : List Work) → ¬ (works ++ w ∷ later ≡ [])
some_there [] w later e = cc
some_there (x ∷ works) w later e = cc

-- nothing stands before the only statement, which is the last
pub only_last : (works : List Work) (w : Work) (later : List Work) (one : Work) → works ++ w ∷ later ≡ one ∷ []
    → (works ≡ []) × (w ≡ one)
only_last [] w later one e = (refl, cc)
only_last (x ∷ works) w later one e = absurd (some_there works w later (behind e))
  where
    behind : x ∷ (works ++ w ∷ later) ≡ one ∷ [] → works ++ w ∷ later ≡ []
    behind e = cc

pub none_there : (items : List Item) (works : List Work) → length items ≡ length works → works ≡ [] → items ≡ []
none_there [] works size e = refl
none_there (x ∷ items) works size e = (let same : length works ≡ 0 = ap length e in absurd (omega arith))

-- ---- the end of a block

-- with no other lane the block loads what its statement loads
pub only_end : (Past : Whole → Type 0) (v m w u p t : View) (rows : List CatRow) (end : ℕ) (works after : List Work) (items : List Item)
    → m ≡ v → u ≡ w
    → Changes u p → OnlySettles p t → after ≡ works → SaysOnly Past m w rows end works items → SaysOnly Past v t rows end after items
only_end Past v m w u p t rows end works after items given taken changes settles same h one is =
    let learns : Learns w t = learns_both w p t (subst (λ (z : View). Learns z p) taken (learns_changes u p changes)) settles.learns in
    singles_later v w t rows end learns (settles.loads ∙ changes.loads ∙ ap (λ (z : View). z.clock.loads) taken) Past one
    (answers items)
    (subst (λ (z : View). AllOf (SaysSingle Past z w rows end one) (answers items)) given (h one (sym same ∙ is)))

-- ---- without the pass

-- the range is whole
single_whole : (Past : Whole → Type 0) (v u : View) (rows : List CatRow) (end : ℕ) (w : Work) (x : Item) → SaysSingle Past v u rows end w x
    → SaysWhole rows v.shut end w x
single_whole Past v u rows end (work.Scan ask) x (inl h) = subst (SaysWhole rows v.shut end (work.Scan ask)) (sym h.is)
    (h.answer.plan, h.plan)
single_whole Past v u rows end (work.Scan ask) x (inr h) = subst (SaysWhole rows v.shut end (work.Scan ask)) (sym h.is) h.tells
single_whole Past v u rows end (work.Explain ask) x (inl h) = subst (SaysWhole rows v.shut end (work.Explain ask)) (sym h.is) h.plan
single_whole Past v u rows end (work.Explain ask) x (inr h) = subst (SaysWhole rows v.shut end (work.Explain ask)) (sym h.is) h.tells
single_whole Past v u rows end (work.Register name def) x h = h
single_whole Past v u rows end (work.Deregister name) x h = h
single_whole Past v u rows end (work.Ingest form begin name file) x h = tt
single_whole Past v u rows end work.Checkpoint x h = h

pub singles_whole : (Past : Whole → Type 0) (v u : View) (rows : List CatRow) (end : ℕ) (w : Work) (items : List Item)
    → AllOf (SaysSingle Past v u rows end w) items → AllOf (SaysWhole rows v.shut end w) items
singles_whole Past v u rows end w [] h = tt
singles_whole Past v u rows end w (x ∷ items) h = (single_whole Past v u rows end w x h.0, singles_whole Past v u rows end w items h.1)
