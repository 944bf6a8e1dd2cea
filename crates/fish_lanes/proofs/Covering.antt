-- What a plan that covers a range says of the definitions: which rows its pieces are of, and that no full piece holds a covered number.
use Rattle.std.proofs.Common.{◌≡◌, ℕ, ◌-◌, ◌<◌, ◌≤◌, suc, List, length, map, sym, ap, ◌∙◌, subst, inr, arith, refl}
use Rattle.std.proofs.Common.{Option, Some, None, slice_get, option_map}
use Rattle.std.proofs.Math.Decide.{dec_lt}
use Rattle.std.proofs.lemmas.List.{length-map}
use Rattle.std.proofs.lemmas.Option.{slice_get-map}
use Rattle.fish_catalog.specs.Intervals as catalog
use Rattle.fish_catalog.specs.Listing.{listed_of}
use Rattle.fish_catalog.specs.Words.{bound_word}
use Rattle.fish_catalog.specs.declared.interval.Interval.{Interval}
use Rattle.fish_catalog.specs.declared.listed.Listed.{Listed}
use Rattle.fish_catalog.specs.declared.row.CatRow.{CatRow}
use Rattle.fish_epoch.proofs.Reading.{knows_later}
use Rattle.fish_epoch.specs.Definitions.{rows_of, version_of}
use Rattle.fish_epoch.specs.declared.definitions.Known.{Known}
use Rattle.fish_lanes.proofs.Answered.{no_index}
use Rattle.fish_lanes.proofs.Lists.{get_some, some_once}
use Rattle.fish_lanes.specs.Plans.{HoldsNone, IsCoveredNumber, IsIndexPiece, IsPlanOf}
use Rattle.fish_lanes.specs.within.Plans.{AreBoundsIn, AreReadBounds}
use Rattle.fish_lanes.specs.Registering.{KnowsRegistry, Registry}
use Rattle.fish_plan.proofs.Inside.{held_is_indexed, index_inside, piece_within}
use Rattle.fish_plan.proofs.Walks.{some_above}
use Rattle.fish_plan.specs.Cover.{IsCover, IsRight}
use Rattle.fish_plan.specs.Gaps.{IsFirstGap}
use Rattle.fish_plan.specs.Intervals.{IsBelowEnd, IsHeldBy}
use Rattle.fish_plan.specs.declared.pieces.Piece.{Piece}
use Rattle.fish_plan.specs.declared.pieces.Piece.TheVariants.{Full, Index}
use Rattle.fish_registry.specs.Knowing.{Knows}
use Rattle.fish_registry.specs.declared.registrar.Registrar.{Registrar}
use Rattle.fish_rule.proofs.laws.Lists.{all_among}
use Rattle.fish_rule.proofs.laws.Versions.{texts_law}
use Rattle.fish_rule.specs.Logs.{Learns}
use Rattle.fish_rule.specs.Registry.{IsRegistered, definitions_at, control_word, row_at, version_in}
use Rattle.fish_rule.specs.Table.{IsOfMoment}
use Rattle.fish_rule.specs.Views.{Among}
use Rattle.fish_rule.specs.declared.view.View.{View}
use Rattle.fish_rule.proofs.laws.Members.{among_at, at_among}
use Rattle.fish_scan.specs.Scans.{IsCovered, IsNamed, IsPlan}
use Rattle.fish_scan.specs.declared.ask.Ask.{Ask}
use Rattle.fish_scan.specs.declared.ask.How.{How}
use Rattle.fish_scan.specs.declared.ask.How.TheVariants as how

-- ---- rows that were told before are definitions of the version

-- the row with the id stands among the definitions, with its text
abbrev pub AreListed : List CatRow → List Listed → Type 0
AreListed told definitions = (id : ℕ) (row : CatRow) → slice_get told id ≡ Some row
    → (l : Listed) × (slice_get definitions id ≡ Some l) × (l.def ≡ row.def)

-- so it is of the rows of a registry that the pass knew, at each later version
pub are_listed : (v u : View) (r : Registry) (known : Known) (ask : Ask) (position : ℕ) → IsOfMoment u → Learns v u
    → KnowsRegistry v r → IsNamed v u known ask position → AreListed r.rows (rows_of known)
are_listed v u r known ask position stands learns registry named id row there =
    let reached = registry.reached in
    let least = named.least in
    texts_law u r.version (version_of known) (map listed_of r.rows) (rows_of known) stands (omega arith)
    (knows_later v u r.version (map listed_of r.rows) learns registry) named.read.rows id (listed_of row)
    (slice_get-map listed_of r.rows id ∙ ap (option_map listed_of) there)

-- ---- a plan that covers its range

module _ (v u : View) (told rows : List CatRow) (definitions : List Listed) (text : List ℕ) (from settled to : ℕ)
    (plan : List Piece) (on : Learns v u) (read : AreReadBounds v told) (listed : AreListed told definitions)
    (bounds : AreBoundsIn u rows) (h : IsCovered v u definitions text from settled to plan) where
  -- a piece by an index lies within the interval of its row
  pub cover_indexed : (position id begin end : ℕ) → slice_get plan position ≡ Some (Index id begin end)
      → IsIndexPiece told rows id begin end
  cover_indexed position id begin end there =
      let i = index_inside plan from settled to h.intervals h.cover position id begin end there in
      let w = piece_within plan from to position (Index id begin end) h.cover.fill there in
      let some_ = w.1 in
      let x : Interval = i.4 in
      let among = at_among h.intervals i.3 x i.5 in
      let interval = (h.are.each x among).begun in
      let row = bounds.from x.id x.from interval.interval.few interval.interval.begins in
      record {
        row = row.0;
        there = ap (slice_get rows) (sym i.6) ∙ row.1;
        begun = record { from = x.from; begins = row.2; early = (i.7 begin (omega arith) some_).begun };
        ended = λ early t at is.
            let word = h.after.words _ ((read id early at).1 t is) in
            let known = h.are.ended x among t (subst (λ (z : ℕ). Among (record { index = row_at z 1; value = suc t })
            h.moment.learned.words) (sym i.6) word) in
            let below = some_above (end - 1) t x.to known (i.7 (end - 1) (omega arith) (omega arith)).open_still in
            omega arith;
      }

  -- a covered number lies in one of the intervals
  covered_held : (n : ℕ) → IsCoveredNumber told rows text n → IsHeldBy h.intervals n
  covered_held n c =
      let l = listed c.id c.row c.there in
      let word = (read c.id c.row c.there).0 c.begun.from c.begun.begins in
      let known = h.are.known c.id l.0 l.1 (l.2 ∙ c.text_is) c.begun.from (h.after.words _ word) in
      let x : Interval = known.0 in
      let interval = (h.are.each x known.1).begun in
      let few : c.id < 256 = subst (λ (z : ℕ). z < 256) known.2 interval.interval.few in
      let own = bounds.from x.id x.from interval.interval.few interval.interval.begins in
      let told_ = bounds.from c.id c.begun.from few (on.words _ word) in
      let same : own.0 ≡ told_.0 =
      some_once own.0 told_.0 (sym own.1 ∙ ap (slice_get rows) known.2 ∙ told_.1) in
      let begins : x.from ≡ c.begun.from =
      some_once x.from c.begun.from (sym own.2 ∙ ap (λ (z : CatRow). z.from) same ∙ told_.2) in
      let early = c.begun.early in
      let at = among_at h.intervals x known.1 in
      record {
        position = at.0;
        interval = x;
        there = at.1;
        holds = record {
          begun = omega arith;
          open_still = below x.to (λ t e.
              let end = bounds.to x.id t interval.interval.few (interval.ended t e) in
              let last : end.0 ≡ c.last =
              some_once end.0 c.last (sym end.1 ∙ ap (slice_get rows) known.2 ∙ c.stands) in
              c.before t (ap (λ (z : CatRow). z.to) (sym last) ∙ end.2));
        };
      }
    where
      below : (o : Option ℕ) → ((t : ℕ) → o ≡ Some t → n < t) → IsBelowEnd n o
      below None f = tt
      below (Some t) f = f t refl

  -- so it is in no full piece below what was settled
  pub cover_full : (position begin end n : ℕ) → slice_get plan position ≡ Some (Full begin end) → begin ≤ n → n < end
      → n < settled → ¬ IsCoveredNumber told rows text n
  cover_full position begin end n there low high below c =
      let i = held_is_indexed plan from settled to h.intervals h.cover n position below (covered_held n c)
      (record { piece = Full begin end; there = there; begins = low; ends = high }) in
      let bad = some_once (Full begin end) (Index i.0 i.1 i.2) (sym there ∙ i.3) in cc

-- ---- any plan

-- a plan says so of its range
pub plan_so : (v u : View) (told rows : List CatRow) (definitions : List Listed) (text : List ℕ) (way : How) (from settled to : ℕ)
    (plan : List Piece) (start : ℕ) → Learns v u → AreReadBounds v told → AreListed told definitions → AreBoundsIn u rows
    → start ≤ settled → IsPlan v u definitions text way from settled to plan → IsPlanOf told rows start text way plan
plan_so v u told rows definitions text how.Full from settled to plan start on read listed bounds low h = record {
  indexed = λ position id begin end there. absurd (no_index from to position id begin end (Rattle.std.proofs.Common.nat_lt from to)
      (subst (λ (z : List Piece). slice_get z position ≡ Some (Index id begin end)) h there));
  full = λ ne. absurd (ne refl);
}
plan_so v u told rows definitions text how.Auto from settled to plan start on read listed bounds low h = record {
  indexed = cover_indexed v u told rows definitions text from settled to plan on read listed bounds h;
  full = λ ne position begin end n there a b less. cover_full v u told rows definitions text from settled to plan on read listed
      bounds h position begin end n there a b (omega arith);
}
plan_so v u told rows definitions text how.Index from settled to plan start on read listed bounds low h = record {
  indexed = cover_indexed v u told rows definitions text from settled to plan on read listed bounds h.0;
  full = λ ne position begin end n there a b less. cover_full v u told rows definitions text from settled to plan on read listed
      bounds h.0 position begin end n there a b (omega arith);
}

-- and so does a gap in what covers it
pub gap_so : (v u : View) (told rows : List CatRow) (definitions : List Listed) (text : List ℕ) (from settled to : ℕ)
    (plan : List Piece) (begin end : ℕ) → Learns v u → AreReadBounds v told → AreListed told definitions → AreBoundsIn u rows
    → IsCovered v u definitions text from settled to plan → IsFirstGap plan settled begin end
    → HoldsNone told rows text begin end
gap_so v u told rows definitions text from settled to plan begin end on read listed bounds h gap n low high =
    let below = gap.gap.below in
    cover_full v u told rows definitions text from settled to plan on read listed bounds h gap.position begin end n gap.gap.there
    low high (omega arith)

-- ---- the intervals of the rows

-- where all boundaries of the rows were known before, and none was set since, the intervals that were loaded are the rows' intervals
module _ (v u : View) (rows : List CatRow) (definitions : List Listed) (text : List ℕ) (from settled to : ℕ) (plan : List Piece)
    (read : AreReadBounds v rows) (same : definitions ≡ map listed_of rows) (bounds : AreBoundsIn u rows)
    (h : IsCovered v u definitions text from settled to plan) (xs : List Interval) (of : catalog.AreIntervals rows text xs) where
  -- one that was loaded ends where its row does
  end_is : (x : Interval) → Among x h.intervals → (row : CatRow) → slice_get rows x.id ≡ Some row → row.to ≡ x.to
  end_is x among row at = by x.to refl
    where
      none : x.to ≡ None → (o : Option ℕ) → row.to ≡ o → row.to ≡ None
      none e None f = f
      none e (Some t) f =
          let known = h.are.ended x among t (h.after.words _ ((read x.id row at).1 t f)) in
          let bad : None ≡ Some t = sym e ∙ known in absurd cc

      by : (o : Option ℕ) → x.to ≡ o → row.to ≡ x.to
      by None e = none e row.to refl ∙ sym e
      by (Some t) e =
          let begun = (h.are.each x among).begun in
          let end = bounds.to x.id t begun.interval.few (begun.ended t e) in
          let row_is : end.0 ≡ row = some_once end.0 row (sym end.1 ∙ at) in
          ap (λ (z : CatRow). z.to) (sym row_is) ∙ end.2 ∙ sym e

  loaded_of : (x : Interval) → Among x h.intervals → catalog.IsIntervalOf rows text x
  loaded_of x among =
      let one = h.are.each x among in
      let row = bounds.from x.id x.from one.begun.interval.few one.begun.interval.begins in
      let listed : slice_get definitions x.id ≡ Some (listed_of row.0) =
      ap (λ (z : List Listed). slice_get z x.id) same ∙ slice_get-map listed_of rows x.id ∙ ap (option_map listed_of) row.1 in
      let is : one.row ≡ listed_of row.0 = some_once one.row (listed_of row.0) (sym one.there ∙ listed) in
      record {
        row = row.0;
        there = row.1;
        text = ap (λ (z : Listed). z.def) (sym is) ∙ one.text_is;
        begins = row.2;
        ends = end_is x among row.0 row.1;
      }

  -- and each of the rows' intervals was loaded
  of_loaded : (y : Interval) (i : ℕ) → slice_get xs i ≡ Some y → Among y h.intervals
  of_loaded y i at =
      let o = of.sound i y at in
      let listed : slice_get definitions y.id ≡ Some (listed_of o.row) =
      ap (λ (z : List Listed). slice_get z y.id) same ∙ slice_get-map listed_of rows y.id ∙ ap (option_map listed_of) o.there in
      let known = h.are.known y.id (listed_of o.row) listed o.text y.from (h.after.words _ ((read y.id o.row o.there).0 y.from o.begins)) in
      let x : Interval = known.0 in
      let l = loaded_of x known.1 in
      let row : l.row ≡ o.row = some_once l.row o.row (sym l.there ∙ ap (slice_get rows) known.2 ∙ o.there) in
      let begins : x.from ≡ y.from =
      some_once x.from y.from (sym l.begins ∙ ap (λ (z : CatRow). z.from) row ∙ o.begins) in
      let ends : x.to ≡ y.to = sym l.ends ∙ ap (λ (z : CatRow). z.to) row ∙ o.ends in
      subst (λ (z : Interval). Among z h.intervals)
      (λ j. let z : Interval = record { id = known.2 j; from = begins j; to = ends j } in z) known.1

  position_of : (x : Interval) (i : ℕ) → slice_get h.intervals i ≡ Some x → (k : ℕ) × (slice_get xs k ≡ Some x)
  position_of x i at = of.complete x (loaded_of x (at_among h.intervals i x at))

  place_in : (y : Interval) (i : ℕ) → slice_get xs i ≡ Some y → (k : ℕ) × (slice_get h.intervals k ≡ Some y)
  place_in y i at = among_at h.intervals y (of_loaded y i at)

  right_by : (x : Piece) → IsRight h.intervals from settled x → IsRight xs from settled x
  right_by (Index id first end) i =
      let p = position_of i.interval i.oldest.position i.oldest.there in
      record {
        below = i.below;
        interval = i.interval;
        named = i.named;
        oldest = record {
          position = p.0;
          there = p.1;
          holds = i.oldest.holds;
          ahead = λ k y at holds. let q = place_in y k at in i.oldest.ahead q.0 y q.1 holds;
        };
        begins = i.begins;
      }
  right_by (Full first end) f = λ less n low high held.
      let q = place_in held.interval held.position held.there in
      f less n low high (record { position = q.0; interval = held.interval; there = q.1; holds = held.holds })

  -- so the plan is the cover by them
  pub cover_by : IsCover plan from settled to xs
  cover_by = record {
    fill = h.cover.fill;
    unsettled = h.cover.unsettled;
    right = λ k x at. right_by x (h.cover.right k x at);
    apart = h.cover.apart;
  }

-- ---- what was read are the rows' boundaries

-- a boundary word that the control pass knows is that of a row that the registrar keeps
module _ (t : View) (s : Registrar) (stands : IsOfMoment t) (knows : Knows t s) where
  row_with : (id i n : ℕ) → id < 256 → i < 2 → Among (record { index = row_at id i; value = suc n }) t.learned.words
      → (row : CatRow) × (slice_get s.catalog id ≡ Some row) × (control_word t.control_words (row_at id i) ≡ suc n)
  row_with id i n few bound among =
      let g = stands.moment.registry in
      let stays = stands.rule.registry.each stands.seat t stands.at in
      let control = stays.control knows.control in
      let word : g (row_at id i) ≡ suc n =
      (all_among (IsRegistered t.about g) (record { index = row_at id i; value = suc n }) t.learned.words stays.read among).word in
      let stored : g (row_at id i) ≡ control_word t.control_words (row_at id i) =
      control.owned (row_at id i) (inr (id, i, few, bound, refl)) in
      let rows : length t.rows ≡ length s.catalog = ap length (sym knows.listed) ∙ length-map s.catalog listed_of in
      let made : length (definitions_at t.about g (version_in g)) ≡ length t.rows = ap length control.definitions in
      let less : id < length s.catalog = there (dec_lt id (length s.catalog)) word rows made in
      let row = get_some s.catalog id less in
      (row.0, row.1, sym stored ∙ word)
    where
      there : Dec (id < length s.catalog) → stands.moment.registry (row_at id i) ≡ suc n → length t.rows ≡ length s.catalog
          → length (definitions_at t.about stands.moment.registry (version_in stands.moment.registry)) ≡ length t.rows
          → id < length s.catalog
      there (yes less) word rows made = less
      there (no not_less) word rows made =
          let none : stands.moment.registry (row_at id i) ≡ 0 =
          stands.rule.registry.boundaries.unmade id i (omega arith) few bound in absurd (omega arith)

  number : (o : Option ℕ) (n : ℕ) → bound_word o ≡ suc n → o ≡ Some n
  number None n e = absurd cc
  number (Some m) n e = ap (λ (z : ℕ). Some z) (let same : m ≡ n = omega arith in same)

  pub bounds_in : AreBoundsIn t s.catalog
  bounds_in = record {
    from = λ id n few among.
        let r = row_with id 0 n few (omega arith) among in
        (r.0, r.1, number r.0.from n (sym (knows.bounds id r.0 r.1).from ∙ r.2));
    to = λ id n few among.
        let r = row_with id 1 n few (omega arith) among in
        (r.0, r.1, number r.0.to n (sym (knows.bounds id r.0 r.1).to ∙ r.2));
  }

-- and the control pass has read those of the registrar's rows
pub bounds_read : (t : View) (s : Registrar) → Knows t s → AreReadBounds t s.catalog
bounds_read t s knows id row there = ((knows.bounds id row there).read_from, (knows.bounds id row there).read_to)

-- what a pass had read before are boundaries of the same rows
pub bounds_before : (u t : View) (rows : List CatRow) → Learns u t → AreBoundsIn t rows → AreBoundsIn u rows
bounds_before u t rows learns h = record {
  from = λ id n few among. h.from id n few (learns.words _ among);
  to = λ id n few among. h.to id n few (learns.words _ among);
}

pub read_later : (v u : View) (rows : List CatRow) → Learns v u → AreReadBounds v rows → AreReadBounds u rows
read_later v u rows learns h id row there = (
  λ n is. learns.words _ ((h id row there).0 n is),
  λ n is. learns.words _ ((h id row there).1 n is),
)
