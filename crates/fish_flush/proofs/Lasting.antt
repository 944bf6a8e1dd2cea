-- What a checkpoint asks for is there once a store is made, and stays.
use Rattle.std.proofs.Common.{◌≡◌, ℕ, zero, suc, ◌+◌, ◌<◌, ◌≤◌, inl, inr, List, [], ◌∷◌, ◌++◌, drop, map, min, refl, sym}
use Rattle.std.proofs.Common.{ap, subst, ◌∙◌, arith, Option, Some, None, slice_get, option_map}
use mathlib.Core.Option.{some-ne-none}
use Rattle.std.proofs.Math.Seq.{drop-nil}
use Rattle.std.proofs.lemmas.Option.{same_Some, slice_get-map}
use Rattle.fish_catalog.proofs.Changes.{push_cases}
use Rattle.fish_catalog.proofs.Clamping.{mapped_from}
use Rattle.fish_catalog.proofs.Closing.{with_from_at, with_to_at}
use Rattle.fish_catalog.specs.Clamps.{begun_by, clamped}
use Rattle.fish_catalog.specs.Closing.{with_to}
use Rattle.fish_catalog.specs.Covering.{Covers}
use Rattle.fish_catalog.specs.Rows.{with_from}
use Rattle.fish_catalog.specs.Words.{bound_word, row_word}
use Rattle.fish_catalog.specs.declared.row.CatRow.{CatRow}
use Rattle.fish_flush.proofs.Committed.{told_later}
use Rattle.fish_flush.proofs.RegionSteps.{holds_later, line_later}
use Rattle.fish_flush.specs.Laws.{CarriesOn, FirstCarries, FirstHolds, GrownBegins, GrownClamps, GrownEnds, GrownPolls, HoldsOn}
use Rattle.fish_flush.specs.Laws.{KnownAreHeld}
use Rattle.fish_flush.specs.Rows.{HaveGrown}
use Rattle.fish_registry.specs.declared.outcome.Poll.TheVariants as poll
use Rattle.fish_registry.specs.declared.registrar.Registrar.{Registrar}
use Rattle.fish_rule.proofs.laws.Intervals.{longer_at}
use Rattle.fish_rule.proofs.laws.Versions.{drafted_here}
use Rattle.fish_rule.specs.Logs.{AreKnown}
use Rattle.fish_rule.specs.Registry.{control_word, row_at}
use Rattle.fish_rule.specs.Table.{boundaries_of, first_view}
use Rattle.fish_rule.specs.declared.view.Key.{Key}

-- ---- what is carried

-- of no rows all have gone on
grown_first : (rows : List CatRow) → HaveGrown 0 [] rows
grown_first rows = record {
  texts = λ id row there. absurd cc;
  covers = λ id n row there less covers. absurd (omega arith);
}

-- nothing was committed, so there is nothing that the pass has to know
pub first_carries : (images : List ℕ → Type 0) → FirstCarries images
first_carries images f s k rows rest number line =
    let count = rest.committed.count in
    let lines = rest.committed.line in
    record {
      rest = rest;
      pages = refl;
      bits = refl;
      grown = grown_first rows;
      from = omega arith;
      settled = omega arith;
      line = inl (sym count ∙ sym number, sym lines ∙ sym line);
      told = subst (AreKnown (first_view k) k.number) (sym (drop-nil k.number)) (λ i e there. absurd (some-ne-none e (sym there)));
    }

-- all that is asked of the view stays known
pub carries_on : (images : List ℕ → Type 0) → CarriesOn images
carries_on images f v u s old new c log h learns grown =
    let from = h.from in
    let settled = h.settled in
    let more = learns.settled in
    let number = ap (λ (z : Key). z.number) learns.about in
    record {
      rest = h.rest;
      pages = h.pages;
      bits = h.bits;
      grown = grown;
      from = omega arith;
      settled = omega arith;
      line = line_later v u f.count f.line learns h.line;
      told = subst (λ (n : ℕ). AreKnown u n (drop n log)) (sym number)
          (told_later v u v.about.number (drop v.about.number log) learns h.told);
    }

-- ---- rows that the pass knows

-- the words of a row's boundaries
from_is : (row : CatRow) → row_word row 0 ≡ bound_word row.from
unfolding row_word
from_is row = refl

to_is : (row : CatRow) → row_word row 1 ≡ bound_word row.to
unfolding row_word
to_is row = refl

-- the first pass stored the boundaries of the rows with which its log begins
pub first_holds : FirstHolds
first_holds k =
    let rows : List CatRow = k.rows.value in
    record {
      control = refl;
      listed = refl;
      from = λ id row there. (let place : 0 + id ≡ id = omega arith in
          ap (λ (n : ℕ). control_word (boundaries_of 0 rows) (row_at n 0)) (sym place)
          ∙ drafted_here 0 id 0 rows row there (omega arith) ∙ from_is row);
      to = λ id row there. (let place : 0 + id ≡ id = omega arith in
          ap (λ (n : ℕ). control_word (boundaries_of 0 rows) (row_at n 1)) (sym place)
          ∙ drafted_here 0 id 1 rows row there (omega arith) ∙ to_is row);
    }

-- what a registrar knows of its rows has it
pub known_held : KnownAreHeld
known_held v r knows = record {
  control = knows.control;
  listed = knows.listed;
  from = λ id row there. (knows.bounds id row there).from;
  to = λ id row there. (knows.bounds id row there).to;
}

-- they are facts of three fields of the view
pub holds_on : HoldsOn
holds_on = holds_later

-- ---- how rows go on

-- the rows with a beginning set, or an end, have each row with its text
from_stays : (rows : List CatRow) (id from k : ℕ) (a : CatRow) → slice_get rows k ≡ Some a
    → (b : CatRow) × (slice_get (with_from rows id from) k ≡ Some b) × (b.def ≡ a.def)
from_stays [] id from k a there = absurd cc
from_stays (r ∷ rows) zero from zero a there =
    (record r { from = Some from }, refl, ap (λ (z : CatRow). z.def) (same_Some r a there))
from_stays (r ∷ rows) zero from (suc k) a there = (a, there, refl)
from_stays (r ∷ rows) (suc id) from zero a there = (a, there, refl)
from_stays (r ∷ rows) (suc id) from (suc k) a there = from_stays rows id from k a there

to_stays : (rows : List CatRow) (id to k : ℕ) (a : CatRow) → slice_get rows k ≡ Some a
    → (b : CatRow) × (slice_get (with_to rows id to) k ≡ Some b) × (b.def ≡ a.def)
to_stays [] id to k a there = absurd cc
to_stays (r ∷ rows) zero to zero a there = (record r { to = Some to }, refl, ap (λ (z : CatRow). z.def) (same_Some r a there))
to_stays (r ∷ rows) zero to (suc k) a there = (a, there, refl)
to_stays (r ∷ rows) (suc id) to zero a there = (a, there, refl)
to_stays (r ∷ rows) (suc id) to (suc k) a there = to_stays rows id to k a there

-- of a row whose boundaries were cut, the numbers below the cut are covered as before
cover_clamped : (n : ℕ) (row : CatRow) (m : ℕ) → m < n → Covers (clamped n row) m → Covers row m
cover_clamped n row m less covers = by row.from refl
  where
    begins : begun_by n row.from ≡ covers.from
    begins = same_Some (begun_by n row.from) covers.from covers.begins

    by : (from : Option ℕ) → row.from ≡ from → Covers row m
    by None none =
        let late : begun_by n row.from ≡ n = ap (begun_by n) none in
        let same = begins in
        let behind = covers.behind in
        absurd (omega arith)
    by (Some x) is = record {
      from = x;
      begins = is;
      behind =
          let cut : begun_by n row.from ≡ min x n = ap (begun_by n) is in
          let same = begins in
          let behind = covers.behind in
          omega arith;
      ahead = λ to ends. (let ahead : m < min to n = covers.ahead (min to n) (ap (option_map (λ t. min t n)) ends) in omega arith);
    }

module _ (n : ℕ) (old rows : List CatRow) (grown : HaveGrown n old rows) where
  -- a row without a beginning covers nothing
  grown_more : (row : CatRow) → row.from ≡ None → HaveGrown n old (rows ++ row ∷ [])
  grown_more row none = record {
    texts = λ id o there. (let t = grown.texts id o there in (t.0, longer_at rows row id t.0 t.1, t.2));
    covers = λ id m x there less covers. elim (push_cases rows row id x there) [
      | inl before ↦ grown.covers id m x before less covers
      | inr last ↦ (let e = sym none ∙ ap (λ (z : CatRow). z.from) last.1 ∙ covers.begins in absurd cc)
    ];
  }

  -- a beginning at or past the number covers nothing below it
  grown_from : (w from : ℕ) → n ≤ from → HaveGrown n old (with_from rows w from)
  grown_from w from late = record {
    texts = λ id o there.
        let t = grown.texts id o there in
        let u = from_stays rows w from id t.0 t.1 in
        (u.0, u.1, u.2 ∙ t.2);
    covers = λ id m x there less covers.
        let was = with_from_at rows w from id x there in
        elim was.2 [
          | inl same ↦ (let e : from ≡ covers.from = same_Some from covers.from
              (ap (λ (z : CatRow). z.from) same.1 ∙ covers.begins) in
              let behind = covers.behind in
              absurd (omega arith))
          | inr apart ↦ grown.covers id m was.0 was.1 less (subst (λ (z : CatRow). Covers z m) (sym apart.1) covers)
        ];
  }

  -- a row that ends covers no more than it did while it had no end
  grown_to : (w to : ℕ) (a : CatRow) → slice_get rows w ≡ Some a → a.to ≡ None → HaveGrown n old (with_to rows w to)
  grown_to w to a at endless = record {
    texts = λ id o there.
        let t = grown.texts id o there in
        let u = to_stays rows w to id t.0 t.1 in
        (u.0, u.1, u.2 ∙ t.2);
    covers = λ id m x there less covers.
        let was = with_to_at rows w to id x there in
        elim was.2 [
          | inl same ↦ (let one : a ≡ was.0 = same_Some a was.0 (sym at ∙ ap (slice_get rows) (sym same.0) ∙ was.1) in
              grown.covers id m was.0 was.1 less (record {
                from = covers.from;
                begins = ap (λ (z : CatRow). z.from) same.1 ∙ covers.begins;
                behind = covers.behind;
                ahead = λ t ends. (let e = sym ends ∙ ap (λ (z : CatRow). z.to) (sym one) ∙ endless in absurd cc);
              }))
          | inr apart ↦ grown.covers id m was.0 was.1 less (subst (λ (z : CatRow). Covers z m) (sym apart.1) covers)
        ];
  }

  -- below the cut each row covers what it covered
  grown_cut : (count : ℕ) → n ≤ count → HaveGrown n old (map (clamped count) rows)
  grown_cut count most = record {
    texts = λ id o there.
        let t = grown.texts id o there in
        (clamped count t.0, slice_get-map (clamped count) rows id ∙ ap (option_map (clamped count)) t.1, t.2);
    covers = λ id m x there less covers.
        let was = mapped_from (clamped count) rows id x there in
        grown.covers id m was.0 was.1 less
        (cover_clamped count was.0 m (omega arith) (subst (λ (z : CatRow). Covers z m) (sym was.2) covers));
  }

pub grown_begins : GrownBegins
grown_begins n old v u r s name def id grown begun =
    subst (HaveGrown n old) (sym begun.rows) (grown_more n old r.catalog grown _ refl)

pub grown_polls : GrownPolls
grown_polls n old v u r s poll.Idle grown counted changes tells =
    subst (λ (z : Registrar). HaveGrown n old z.catalog) (sym tells.1) grown
grown_polls n old v u r s (poll.NotYet seat version) grown counted changes tells =
    subst (HaveGrown n old) (sym tells.3) grown
grown_polls n old v u r s (poll.Bound id from) grown counted changes tells =
    let more = changes.count in
    let count = tells.4 in
    subst (HaveGrown n old) (sym tells.2) (grown_from n old r.catalog grown id from (omega arith))

pub grown_ends : GrownEnds
grown_ends n old r s name id to grown named rows =
    subst (HaveGrown n old) (sym rows) (grown_to n old r.catalog grown id to named.row named.there named.active)

pub grown_clamps : GrownClamps
grown_clamps n count old rows grown most = grown_cut n old rows grown count most
