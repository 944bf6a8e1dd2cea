-- What a scan knew at each of its steps holds at its end.
use Rattle.std.proofs.Common.{◌≡◌, ℕ, ◌-◌, ◌<◌, ◌≤◌, zero, suc, List, [], ◌∷◌, ◌++◌, refl, sym, ap, ◌∙◌, subst, ⊎_elim, inl}
use Rattle.std.proofs.Common.{inr, arith, Some, None, Option, slice_get, Bool, true, false, cond, nat_lt, Result, Ok, Err}
use Rattle.std.specs.Prelude.{IfErr, IfOk}
use Rattle.std.proofs.Math.ListN.{get_or}
use Rattle.std.proofs.lemmas.Option.{get_or_from_slice_get, same_Some}
use Rattle.fish_catalog.specs.declared.interval.Interval.{Interval}
use Rattle.fish_catalog.specs.declared.listed.Listed.{Listed}
use Rattle.fish_epoch.proofs.Reading.{defs_later}
use Rattle.fish_epoch.specs.Definitions.{AreRead, rows_of, version_of}
use Rattle.fish_epoch.specs.declared.definitions.Known.{Known}
use Rattle.fish_lang.specs.Definition.{Definition, definition_of}
use Rattle.fish_lang.specs.Language.{IsAccepted}
use Rattle.fish_plan.proofs.Inside.{index_inside, piece_within}
use Rattle.fish_plan.specs.Intervals.{IsBelowEnd}
use Rattle.fish_plan.specs.Pieces.{one_full}
use Rattle.fish_plan.specs.declared.pieces.Piece.{Piece}
use Rattle.fish_plan.specs.declared.pieces.Piece.TheVariants.{Full, Index}
use Rattle.fish_rule.proofs.laws.Clocks.{later_both, later_self, loaded_within, noted_load}
use Rattle.fish_rule.proofs.laws.Learning.{learns_both, learns_self}
use Rattle.fish_rule.proofs.laws.ChainFacts.{always_later}
use Rattle.fish_rule.specs.Clocks.{HasLoaded, IsLater}
use Rattle.fish_rule.specs.RegistrySteps.{after_load_version}
use Rattle.fish_rule.specs.Intervals.{HasInterval}
use Rattle.fish_rule.specs.Logs.{Extends, Learns, KnowsMark}
use Rattle.fish_rule.specs.LoadSteps.{IsAlone}
use Rattle.fish_rule.specs.declared.view.Epoch.{Epoch}
use Rattle.fish_rule.specs.declared.view.Key.{Key}
use Rattle.fish_rule.specs.declared.view.Noted.TheVariants.{Version}
use Rattle.fish_rule.specs.declared.view.View.{View}
use Rattle.fish_scan.proofs.Beginnings.{interval_later}
use Rattle.fish_rule.proofs.laws.Members.{at_among}
use Rattle.fish_scan.proofs.Looking.{open_later, open_sooner}
use Rattle.fish_scan.proofs.Reaching.{reached_still}
use Rattle.fish_scan.specs.within.Indices.{IsIndex}
use Rattle.fish_scan.specs.Intervals.{IsListedIntervalOf, end_within}
use Rattle.fish_scan.specs.Matching.{Finds}
use Rattle.fish_scan.specs.within.Pieces.{AreReadable, IsReadable}
use Rattle.fish_scan.specs.Reach.{IsExact, IsRange, end_of}
use Rattle.fish_scan.specs.within.Reach.{IsReach}
use Rattle.fish_scan.specs.within.Reading.{Adds}
use Rattle.fish_scan.specs.Scans.{IsAsked, IsCovered, IsPlan, IsPlanned}
use Rattle.fish_scan.specs.within.Scans.{IsPlanRefused, IsPlannedScan, IsQuery}
use Rattle.fish_scan.specs.Scans.{IsUnplanned, OnlyPlans, OnlyScans, first_asked}
use Rattle.fish_scan.specs.declared.ask.Ask.{Ask}
use Rattle.fish_scan.specs.declared.ask.How.{How}
use Rattle.fish_scan.specs.declared.ask.How.TheVariants as how
use Rattle.fish_scan.specs.declared.reach.Reach.{Reach}
use Rattle.fish_scan.specs.declared.refusal.ScanRefusal.{ScanRefusal}
use Rattle.fish_scan.specs.declared.refusal.ScanRefusal.TheVariants as refusal
use Rattle.fish_scan.specs.declared.scanning.PlannedScan.{PlannedScan}
use Rattle.fish_value.specs.declared.row.Row.{Row}
use Rattle.fish_value.specs.declared.value.Value.{Value}
use Rattle.fish_walk.proofs.Looking.{ends_later, entry_later, stops_within}
use Rattle.fish_walk.specs.Looks.{IsTailCount}
use Rattle.fish_walk.specs.Settling.{IsEnd, OnlySettles}

-- ---- views

-- two parts of a scan
pub scans_both : (a b c : View) → OnlyScans a b → OnlyScans b c → OnlyScans a c
scans_both a b c h g = record {
  learns = learns_both a b c h.learns g.learns;
  clock = later_both a.clock b.clock c.clock h.clock g.clock;
  frame = g.frame ∙ ap (λ (z : View). record z { epoch = c.epoch; tail = c.tail; learned = c.learned; clock = c.clock }) h.frame;
  outside = λ e. g.outside (h.outside e);
}

-- a view that extends another
pub scans_extends : (v u : View) → Extends v u → OnlyScans v u
scans_extends v u h = record {
  learns = h.learns;
  clock = h.clock;
  frame = h.frame ∙ λ i. record v {
    epoch = sym (ap (λ (z : View). z.epoch) h.frame) i;
    tail = sym (ap (λ (z : View). z.tail) h.frame) i;
    learned = u.learned;
    clock = u.clock;
  };
  outside = λ e. ap (λ (z : View). z.epoch) h.frame ∙ e;
}

-- a call that settles
pub scans_settles : (v u : View) → OnlySettles v u → OnlyScans v u
scans_settles v u h = record {
  learns = h.learns;
  clock = h.clock;
  frame = h.frame ∙ λ i. record v {
    epoch = sym (ap (λ (z : View). z.epoch) h.frame) i;
    tail = u.tail;
    learned = u.learned;
    clock = u.clock;
  };
  outside = λ e. ap (λ (z : View). z.epoch) h.frame ∙ e;
}

-- the version is loaded
pub scans_version : (v u : View) (x : ℕ) → u ≡ after_load_version v x → v.learned.version ≤ x → OnlyScans v u
scans_version v u x is more = subst (OnlyScans v) (sym is) (record {
  learns = assumption (learns_self v, more);
  clock = (noted_load v.clock Version x).on;
  frame = refl;
  outside = λ e. ap (λ (z : Epoch). (after_load_version (record v { epoch = z }) x).epoch) e;
})

-- ---- views of what loads no word of the log

-- two parts of it
pub plans_both : (a b c : View) → OnlyPlans a b → OnlyPlans b c → OnlyPlans a c
plans_both a b c h g = record { scans = scans_both a b c h.scans g.scans; loads = g.loads ∙ h.loads }

-- a view that extends another
pub plans_extends : (v u : View) → Extends v u → u.clock.loads ≡ v.clock.loads → OnlyPlans v u
plans_extends v u h same = record { scans = scans_extends v u h; loads = same }

-- a call that settles
pub plans_settles : (v u : View) → OnlySettles v u → OnlyPlans v u
plans_settles v u h = record { scans = scans_settles v u h; loads = h.loads }

-- the version is loaded
pub plans_version : (v u : View) (x : ℕ) → u ≡ after_load_version v x → v.learned.version ≤ x → OnlyPlans v u
plans_version v u x is more = record {
  scans = scans_version v u x is more;
  loads = ap (λ (z : View). z.clock.loads) is;
}

-- the version that was loaded is that of the definitions
pub version_loaded : (v m u : View) (x : ℕ) (known : Known) → m ≡ after_load_version v x → IsLater m.clock u.clock
    → version_of known ≡ x → HasLoaded v.clock u.clock Version (version_of known)
version_loaded v m u x known is later same =
    subst (HasLoaded v.clock u.clock Version) (sym same)
    (loaded_within v.clock v.clock m.clock u.clock Version x (later_self v.clock)
    (subst (λ (z : View). HasLoaded v.clock z.clock Version x) (sym is) (noted_load v.clock Version x)) later)

-- ---- what was asked

-- what was read is so later
pub read_later : (v u : View) (known : Known) → Learns v u → AreRead v known → AreRead u known
read_later v u known learns h = defs_later v u known learns (λ _. h) h.read

-- what is asked is so later
unfoldable pub asked_later : (v u t : View) (known : Known) (ask : Ask) (position : ℕ) → OnlyScans u t → IsAsked v u known ask position
    → IsAsked v t known ask position
asked_later v u t known ask position more h = record {
  named = record {
    loaded = loaded_within _ _ _ _ _ _ (later_self v.clock) h.named.loaded more.clock;
    least = h.named.least;
    read = read_later u t known more.learns h.named.read;
    newest = h.named.newest;
  };
  some = h.some;
}

-- ---- ranges and plans

-- a range that was found between two views was so between an earlier and a later one
unfoldable pub range_within : (v m u t : View) (from : ℕ) (to : Option ℕ) (first last : ℕ) (opens : List ℕ) → OnlyScans v m
    → OnlyScans u t → IsRange m u from to first last opens → IsRange v t from to first last opens
range_within v m u t from to first last opens before after h = record {
  first_is = h.first_is;
  count = h.count;
  counted = record {
    tail = h.counted.tail;
    loaded = loaded_within _ _ _ _ _ _ before.clock
        (loaded_within _ _ _ _ _ _ (later_self m.clock) h.counted.loaded after.clock) (later_self t.clock);
    is = h.counted.is;
  };
  known = (let a = h.known in let b = before.learns.count in omega arith);
  claimed = (let a = h.claimed in let b = after.learns.count in omega arith);
  within = h.within;
  stops = ⊎_elim (λ (e : last ≡ end_of to h.count). inl e)
      (λ (mark : KnowsMark u last × (u.about.number ≤ last)). inr (
        λ x more. mark.0 x (learns_both u t x after.learns more),
        subst (λ (z : Key). z.number ≤ last) (sym after.learns.about) mark.1,
      )) h.stops;
  rise = h.rise;
  were = λ n among. open_sooner v m t n before.learns before.clock (open_later m u t n after.clock (h.were n among));
  latest = λ a b lane f g p q at more below. always_later u t _ after.learns (h.latest a b lane f g p q at more below);
  others = λ n base above below closed. entry_later u t n after.learns
      (h.others n (subst (λ (z : Key). z.number ≤ n) (sym before.learns.about) base) above below closed);
}

-- a pass that is alone stays alone
pub scans_alone : (v u : View) → OnlyScans v u → IsAlone v → IsAlone u
scans_alone v u h alone = record {
  control = ap (λ (z : View). z.lane) h.frame ∙ alone.control;
  all = ap (λ (z : View). z.out) h.frame ∙ alone.all;
  idle = ap (λ (z : View). z.flight) h.frame ∙ alone.idle;
}

-- what it found of the whole log is so between an earlier view with the same tail and a later one
pub exact_within : (v m u t : View) (to : Option ℕ) (count settled last : ℕ) (opens : List ℕ) → m.tail ≡ v.tail → Learns u t
    → IsExact m u to count settled last opens → IsExact v t to count settled last opens
exact_within v m u t to count settled last opens tail after h = record {
  counted = subst (IsTailCount count) tail h.counted;
  ends = ends_later u t settled count after h.ends;
  last_is = h.last_is;
  closed = h.closed;
}

-- so was what a scan reaches, for the first number that is asked for
pub reach_within : (v m u t : View) (ask : Ask) (first : ℕ) (reach : Reach) → OnlyScans v m → m.tail ≡ v.tail → OnlyScans u t
    → first ≡ first_asked ask → IsReach m u first ask.to reach → IsReach v t (first_asked ask) ask.to reach
unfolding range_within
reach_within v m u t ask first reach before tail after is h =
    subst (λ (z : ℕ). IsReach v t z ask.to reach) is (record {
      range = range_within v m u t first ask.to reach.from reach.to reach.opens before after h.range;
      reached = reached_still u t reach after.learns h.reached;
      opened = λ n among. subst (λ (z : Key). z.number ≤ n) (sym after.learns.about) (h.opened n among);
      stops_at = stops_within IsEnd v m u t reach.settled h.range.count before.learns before.clock h.stops_at after.clock;
      settled = (let a = h.settled in let b = before.learns.settled in omega arith);
      reaches = (let a = h.reaches in let b = after.learns.settled in omega arith);
      exact = λ alone. exact_within v m u t ask.to h.range.count reach.settled reach.to reach.opens tail after.learns
          (h.exact (scans_alone v m before alone));
    })

-- so was a cover
pub covered_within : (v m u t : View) (rows : List Listed) (text : List ℕ) (from settled to : ℕ) (plan : List Piece)
    → Learns v m → Learns u t → IsCovered m u rows text from settled to plan → IsCovered v t rows text from settled to plan
covered_within v m u t rows text from settled to plan before after h = record {
  moment = h.moment;
  after = learns_both v m h.moment before h.after;
  known = h.known;
  intervals = h.intervals;
  are = record {
    each = λ x among. interval_later u t h.moment.learned.settled rows text x after (h.are.each x among);
    known = h.are.known;
    ended = h.are.ended;
  };
  cover = h.cover;
}

-- and a plan
pub plan_within : (v m u t : View) (rows : List Listed) (text : List ℕ) (way : How) (from settled to : ℕ)
    (plan : List Piece) → Learns v m → Learns u t → IsPlan m u rows text way from settled to plan
    → IsPlan v t rows text way from settled to plan
plan_within v m u t rows text how.Full from settled to plan before after h = h
plan_within v m u t rows text how.Auto from settled to plan before after h =
    covered_within v m u t rows text from settled to plan before after h
plan_within v m u t rows text how.Index from settled to plan before after h =
    (covered_within v m u t rows text from settled to plan before after h.0, h.1)

-- a plan by the rows that were given, and by the text that was
pub plan_by_rows : (v m u t : View) (rows got : List Listed) (text seen : List ℕ) (way : How) (from settled to : ℕ)
    (plan : List Piece) → got ≡ rows → seen ≡ text → Learns v m → Learns u t
    → IsPlan m u got seen way from settled to plan → IsPlan v t rows text way from settled to plan
plan_by_rows v m u t rows got text seen way from settled to plan same is before after h =
    subst (λ (z : List Listed × List ℕ). IsPlan v t z.0 z.1 way from settled to plan) (λ i. (same i, is i))
    (plan_within v m u t got seen way from settled to plan before after h)

-- ---- what can be read

-- a full plan has one piece at most
one_piece : (from to position : ℕ) (x : Piece) (b : Bool) → slice_get (cond b (Full from to ∷ []) []) position ≡ Some x
    → x ≡ Full from to
one_piece from to zero x true at = sym (same_Some _ _ at)
one_piece from to (suc n) x true at = absurd cc
one_piece from to position x false at = absurd cc

module _ (v u : View) (known : Known) (def : Definition) (text : List ℕ) (reach : Reach) (read : AreRead u known)
    (means : IsAccepted text def) (ordered : reach.from ≤ reach.to) where
  -- the index of a row with the text is complete in its interval
  index_found : (id p q settled : ℕ) (x : Interval) → x.id ≡ id → p < q
      → ((n : ℕ) → p ≤ n → n < q → (x.from ≤ n) × IsBelowEnd n x.to)
      → q ≤ settled → IsListedIntervalOf u settled (rows_of known) text x → IsIndex u def id p q
  index_found id p q settled x id_is some holds below h = record {
    version = version_of known;
    rows = rows_of known;
    knows = read.rows;
    listed = h.row;
    there = ap (slice_get (rows_of known)) (sym id_is) ∙ h.there;
    means = subst (λ (z : List ℕ). IsAccepted z def) (sym h.text_is) means;
    begin = x.from;
    end = end_within settled x.to;
    interval = subst (λ (z : ℕ). HasInterval u z x.from (end_within settled x.to)) id_is h.begun.interval;
    after = (holds p (omega arith) some).0;
    before = ends x.to (holds (q - 1) (omega arith) (omega arith)).1;
  }
    where
      ends : (to : Option ℕ) → IsBelowEnd (q - 1) to → q ≤ end_within settled to
      ends None less = below
      ends (Some to) less = omega arith

  -- the pieces of a cover
  cover_readable : (plan : List Piece) → IsCovered v u (rows_of known) text reach.from reach.settled reach.to plan
      → AreReadable u def reach plan
  cover_readable plan h position (Full p q) there =
      let w = piece_within plan reach.from reach.to position (Full p q) h.cover.fill there in
      record { from = w.0; some = (let s = w.1 in omega arith); to = w.2 }
  cover_readable plan h position (Index id p q) there =
      let w = piece_within plan reach.from reach.to position (Index id p q) h.cover.fill there in
      let i = index_inside plan reach.from reach.settled reach.to h.intervals h.cover position id p q there in
      let x = i.4 in (
        record { from = w.0; some = (let s = w.1 in omega arith); to = w.2 },
        i.1,
        index_found id p q h.moment.learned.settled x i.6 w.1
            (λ n least most. let held = i.7 n least most in (held.begun, held.open_still))
            (let a = i.1 in let b = h.known in omega arith) (h.are.each x (at_among h.intervals i.3 x i.5)),
      )

  -- that of a full plan
  full_readable : (plan : List Piece) → plan ≡ one_full reach.from reach.to → AreReadable u def reach plan
  full_readable plan is position piece there =
      subst (IsReadable u def reach) (sym (one_piece reach.from reach.to position piece (nat_lt reach.from reach.to)
      (subst (λ (z : List Piece). slice_get z position ≡ Some piece) is there)))
      (record { from = omega arith; some = ordered; to = omega arith })

  -- and those of every plan
  pub plan_readable : (way : How) (plan : List Piece)
      → IsPlan v u (rows_of known) text way reach.from reach.settled reach.to plan → AreReadable u def reach plan
  plan_readable how.Full plan h = full_readable plan h
  plan_readable how.Auto plan h = cover_readable plan h
  plan_readable how.Index plan h = cover_readable plan h.0

-- ---- refusals

-- why there is no plan
pub plan_refused : (v m u t : View) (known : Known) (ask : Ask) (position : ℕ) (reach : Reach) (r : ScanRefusal)
    (asked : IsAsked v t known ask position) → Learns v m → Learns u t → IsReach v t (first_asked ask) ask.to reach
    → IsPlanRefused m u (rows_of known) asked.named.newest.listed.def ask.how reach.from reach.settled reach.to r
    → IsUnplanned v t known ask r
plan_refused v m u t known ask position reach (refusal.NotCovered first last) asked before after reached h = (
  h.0,
  record {
    position = position;
    asked = asked;
    first = reach.from;
    last = reach.to;
    opens = reach.opens;
    range = reached.range;
    settled = reach.settled;
    stops_at = reached.stops_at;
    least = reached.settled;
    most = reached.reaches;
    exact = reached.exact;
    plan = h.1.0;
    covered = covered_within v m u t _ _ _ _ _ _ before after h.1.1;
    gap = h.1.2;
  },
)
plan_refused v m u t known ask position reach refusal.OutOfMemory asked before after reached h = tt
plan_refused v m u t known ask position reach (refusal.UnknownName version) asked before after reached h = absurd h
plan_refused v m u t known ask position reach (refusal.EmptyRange a b) asked before after reached h = absurd h
plan_refused v m u t known ask position reach (refusal.ColdRange base) asked before after reached h = absurd h
plan_refused v m u t known ask position reach refusal.DiskFault asked before after reached h = absurd h
plan_refused v m u t known ask position reach (refusal.Damaged number) asked before after reached h = absurd h

-- what comes of a refusal
pub err_gives : {A E : Type 0} (P Q : E → Type 0) (r : Result A E) → IfErr r P → ((e : E) → P e → Q e) → IfErr r Q
err_gives P Q (Ok x) h f = tt
err_gives P Q (Err e) h f = f e h

-- ---- what was planned

-- what stands at the place of a row
pub row_found : (rows got : List Listed) (position : ℕ) (listed other : Listed) → got ≡ rows
    → slice_get rows position ≡ Some listed → get_or got position other ≡ listed
row_found rows got position listed other same there =
    get_or_from_slice_get got position listed other (ap (λ (z : List Listed). slice_get z position) same ∙ there)

-- and planned what reads it
pub planned_scan_at : (v u t : View) (known : Known) (ask : Ask) (position : ℕ) (reach : Reach) (plan : List Piece) (p : PlannedScan)
    (asked : IsAsked v u known ask position) → OnlyScans u t → IsReach v t (first_asked ask) ask.to reach
    → IsPlan v t (rows_of known) asked.named.newest.listed.def ask.how reach.from reach.settled reach.to plan
    → IsQuery asked.named.newest.listed.def ask reach p.query → p.plan ≡ plan
    → IsPlannedScan v t known ask p
unfolding asked_later
planned_scan_at v u t known ask position reach plan p asked more reached is query same = record {
  position = position;
  asked = asked_later v u t known ask position more asked;
  means = query.means;
  value = query.value;
  reach = subst (IsReach v t (first_asked ask) ask.to) (sym query.reach_is) reached;
  plan = subst (λ (z : Reach × List Piece). IsPlan v t (rows_of known) asked.named.newest.listed.def ask.how z.0.from
      z.0.settled z.0.to z.1) (λ i. (sym query.reach_is i, sym same i)) is;
}

-- whatever the call answers
pub planned_scan_all : (v t : View) (known : Known) (ask : Ask) (reach : Reach) (plan : List Piece) {text : List ℕ}
    (r : Result PlannedScan ScanRefusal) → IfOk r (λ p. IsQuery text ask reach p.query) → IfOk r (λ p. p.plan ≡ plan)
    → ((p : PlannedScan) → IsQuery text ask reach p.query → p.plan ≡ plan → IsPlannedScan v t known ask p)
    → IfOk r (IsPlannedScan v t known ask)
planned_scan_all v t known ask reach plan (Ok p) query same f = f p query same
planned_scan_all v t known ask reach plan (Err e) query same f = tt

-- memory may be wanting for it
pub memory_refused : (v t : View) (known : Known) (ask : Ask) (r : ScanRefusal) → r ≡ refusal.OutOfMemory → IsUnplanned v t known ask r
memory_refused v t known ask r is = subst (IsUnplanned v t known ask) (sym is) tt

-- how the range is read is so later
unfoldable pub planned_later : (v u t : View) (known : Known) (ask : Ask) (p : PlannedScan) → OnlyScans u t
    → IsPlannedScan v u known ask p
    → IsPlanned v t known ask p.query.reach.from p.query.reach.to p.query.reach.opens p.plan
unfolding asked_later range_within
planned_later v u t known ask p after h = record {
  position = h.position;
  asked = asked_later v u t known ask h.position after h.asked;
  range = range_within v v u t _ _ _ _ _
      (record { learns = learns_self v; clock = later_self v.clock; frame = refl; outside = λ e. e }) after
      h.reach.range;
  settled = p.query.reach.settled;
  stops_at = stops_within IsEnd v v u t p.query.reach.settled h.reach.range.count (learns_self v) (later_self v.clock)
      h.reach.stops_at after.clock;
  least = h.reach.settled;
  most = (let a = h.reach.reaches in let b = after.learns.settled in omega arith);
  exact = λ alone. exact_within v v u t ask.to h.reach.range.count p.query.reach.settled p.query.reach.to p.query.reach.opens
      refl after.learns (h.reach.exact alone);
  plan_is = plan_within v v u t _ _ ask.how _ _ _ _ (learns_self v) after.learns h.plan;
}

-- rows after none
pub adds_first : (v : View) (def : Definition) (value other : Value) (from to : ℕ) (opens : List ℕ) (before after : List Row)
    → before ≡ [] → value ≡ other → Adds v def value from to opens before after → Finds v def other from to opens after
adds_first v def value other from to opens before after none same h =
    subst (λ (z : Value × List Row). Finds v def z.0 from to opens z.1)
    (λ i. (same i, sym (h.1 ∙ ap (λ (z : List Row). z ++ h.0) none) i)) h.2

-- ---- what is answered

-- the pieces of what was planned can be read
pub planned_readable : (v u : View) (known : Known) (ask : Ask) (p : PlannedScan) → IsPlannedScan v u known ask p
    → AreReadable u (definition_of p.query.def) p.query.reach p.plan
planned_readable v u known ask p h =
    let first = h.reach.range.first_is in
    plan_readable v u known (definition_of p.query.def) h.asked.named.newest.listed.def p.query.reach h.asked.named.read
    h.means (omega arith) ask.how p.plan h.plan
