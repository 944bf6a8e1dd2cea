-- What boundary words that are loaded tell of the intervals of a definition.
use Rattle.std.proofs.Common.{◌≡◌, ℕ, ◌<◌, ◌≤◌, zero, suc, List, [], ◌∷◌, length, refl, sym, ap, ◌∙◌, subst, ⊎_elim, inl}
use Rattle.std.proofs.Common.{inr, arith, None, Some, Option, slice_get}
use Rattle.std.proofs.Math.Decide.{dec_lt}
use Rattle.std.proofs.lemmas.Option.{same_Some, slice_get_within}
use Rattle.fish_catalog.specs.Listing.{IsListing}
use Rattle.fish_catalog.specs.declared.interval.Interval.{Interval}
use Rattle.fish_catalog.specs.declared.listed.Listed.{Listed}
use Rattle.fish_rule.proofs.laws.Lists.{among_left, among_right}
use Rattle.fish_rule.proofs.laws.Learning.{extends_both}
use Rattle.fish_rule.proofs.laws.Intervals.{intervals_stay}
use Rattle.fish_rule.specs.BoundarySteps.{after_load_boundary, end_told, with_boundary}
use Rattle.fish_rule.specs.Logs.{Learns}
use Rattle.fish_rule.specs.Registry.{row_at}
use Rattle.fish_rule.specs.Views.{Among}
use Rattle.fish_rule.specs.declared.view.RegistryWord.{RegistryWord}
use Rattle.fish_rule.specs.declared.view.View.{View}
use Rattle.fish_scan.proofs.Lists.{among_last}
use Rattle.fish_scan.specs.Intervals.{AreListedIntervals, HasEndKnown, IsBegunInterval, IsListedIntervalOf}
use Rattle.fish_scan.specs.within.Intervals.{AddsInterval, IsTaken}
use Rattle.fish_scan.specs.Intervals.{end_within}
use Rattle.fish_scan.specs.within.Intervals.{IsUnbegun, OnlyBoundaries}

-- ---- loads

-- only boundaries were loaded, in two parts
pub boundaries_both : (a b c : View) → OnlyBoundaries a b → OnlyBoundaries b c → OnlyBoundaries a c
boundaries_both a b c h g = record {
  extends = extends_both a b c h.extends g.extends;
  settled = g.settled ∙ h.settled;
  count = g.count ∙ h.count;
  loads = g.loads ∙ h.loads;
}

-- a row of whose index no beginning is found was known to have none
pub unbegun_found : (v : View) (id x : ℕ) → ((y : RegistryWord) → Among y v.learned.words → y.index ≡ row_at id 0
    → x ≡ y.value) → x ≡ 0 → IsUnbegun v id
unbegun_found v id x known none from among =
    let e = known (record { index = row_at id 0; value = suc from }) among refl in absurd (omega arith)

-- a word that is known stays known beside a boundary
boundary_still : (p x : ℕ) (words : List RegistryWord) (y : RegistryWord) → Among y words → Among y (with_boundary p x words)
boundary_still p zero words y among = among
boundary_still p (suc n) words y among = inr among

-- the word of an end: 0 for none
abbrev pub word_of_end : Option ℕ → ℕ
word_of_end None = 0
word_of_end (Some to) = suc to

-- such a word tells of the end, or else of what is settled
end_of_word : (settled : ℕ) (to : Option ℕ) → end_within settled to ≡ end_told settled (word_of_end to)
end_of_word settled None = refl
end_of_word settled (Some to) = refl

-- the word of an end that was loaded is known
end_among : (p : ℕ) (words : List RegistryWord) (to : Option ℕ) (n : ℕ) → to ≡ Some n
    → Among (record { index = p; value = suc n }) (with_boundary p (word_of_end to) words)
end_among p words None n is = absurd cc
end_among p words (Some to) n is =
    inl (ap (λ (z : ℕ). record { index = p; value = suc z }) (same_Some to n is))

-- the word of an end is that of one end
end_same : (to : Option ℕ) (n : ℕ) → word_of_end to ≡ suc n → to ≡ Some n
end_same None n is = absurd (omega arith)
end_same (Some to) n is = ap Some (omega arith)

module _ (v m u : View) (id x y from : ℕ) (to : Option ℕ) (few : id < 256) (first : m ≡ after_load_boundary v id 0 x)
    (last : u ≡ after_load_boundary m id 1 y) (begins : x ≡ suc from) (ends : y ≡ word_of_end to) where
  -- a beginning and an end that were loaded make an interval
  begun_found : IsBegunInterval u v.learned.settled id (record { id = id; from = from; to = to })
  begun_found = subst (λ (z : View). IsBegunInterval z v.learned.settled id (record { id = id; from = from; to = to }))
      (sym (last ∙ (λ i. after_load_boundary (first i) id 1 (ends i)) ∙ ap (λ (z : ℕ).
      after_load_boundary (after_load_boundary v id 0 z) id 1 (word_of_end to)) begins)) (record {
        id_is = refl;
        interval = record {
          few = few;
          begins = boundary_still (row_at id 1) (word_of_end to)
              (with_boundary (row_at id 0) (suc from) v.learned.words)
              (record { index = row_at id 0; value = suc from }) (inl refl);
          unended = record { id = id; below = end_told v.learned.settled (word_of_end to) };
          among = inl refl;
          of = refl;
          upto = (let same = end_of_word v.learned.settled to in omega arith);
        };
        ended = end_among (row_at id 1) (with_boundary (row_at id 0) (suc from) v.learned.words) to;
      })

  -- and an end that was known is that of the interval, since its word was loaded
  pub taken_found : ((z : RegistryWord) → Among z m.learned.words → z.index ≡ row_at id 1 → y ≡ z.value)
      → IsTaken v u id (Some (record { id = id; from = from; to = to }))
  taken_found known = (
    begun_found,
    λ n among. end_same to n (sym ends
        ∙ known (record { index = row_at id 1; value = suc n }) (subst (λ (z : View).
        Among (record { index = row_at id 1; value = suc n }) z.learned.words) (sym first)
        (boundary_still (row_at id 0) x v.learned.words _ among)) refl),
  )

-- ---- rows

-- the intervals of the rows up to one
pub record AreSoFar (v u : View) (rows : List Listed) (text : List ℕ) (upto : ℕ) (intervals : List Interval) : Type 0 where
  pub each : (x : Interval) → Among x intervals → IsListedIntervalOf u v.learned.settled rows text x
  pub known : (id : ℕ) (row : Listed) → id < upto → slice_get rows id ≡ Some row → row.def ≡ text
      → (from : ℕ) → Among (record { index = row_at id 0; value = suc from }) v.learned.words
      → (x : Interval) × Among x intervals × (x.id ≡ id)
  pub ended : (x : Interval) → Among x intervals → HasEndKnown v x.id x

-- all of all rows
pub so_far_all : (v u : View) (rows : List Listed) (text : List ℕ) (upto : ℕ) (intervals : List Interval)
    → length rows ≤ upto → AreSoFar v u rows text upto intervals → AreListedIntervals v u rows text intervals
so_far_all v u rows text upto intervals all h = record {
  each = h.each;
  known = λ id row there. h.known id row (let w = slice_get_within rows id row there in omega arith) there;
  ended = h.ended;
}

-- what is known of an interval stays known
pub interval_later : (v u : View) (settled : ℕ) (rows : List Listed) (text : List ℕ) (x : Interval) → Learns v u
    → IsListedIntervalOf v settled rows text x → IsListedIntervalOf u settled rows text x
interval_later v u settled rows text x learns h = record {
  row = h.row;
  there = h.there;
  text_is = h.text_is;
  begun = record {
    id_is = h.begun.id_is;
    interval = intervals_stay v u _ _ _ learns h.begun.interval;
    ended = λ to is. learns.words _ (h.begun.ended to is);
  };
}

module _ (v m u : View) (rows : List Listed) (text : List ℕ) (n : ℕ) (row : Listed) (before after : List Interval)
    (listing : IsListing rows) (old : OnlyBoundaries v m) (new : OnlyBoundaries m u)
    (there : slice_get rows n ≡ Some row) (h : AreSoFar v m rows text n before)
    (adds : AddsInterval m u row text before after) where
  -- one row more
  pub so_far_more : AreSoFar v u rows text (suc n) after
  so_far_more = by adds
    where
      id_is : row.id ≡ n
      id_is = listing.ids n row there

      kept : (x : Interval) → Among x before → IsListedIntervalOf u v.learned.settled rows text x
      kept x among = interval_later m u v.learned.settled rows text x new.extends.learns (h.each x among)

      by : AddsInterval m u row text before after → AreSoFar v u rows text (suc n) after
      by (inl a) = record {
        each = λ x among. ⊎_elim (λ (old : Among x before). kept x old) (λ (e : a.interval ≡ x). subst (λ (z : Interval).
            IsListedIntervalOf u v.learned.settled rows text z) e mine)
            (among_last x a.interval before (subst (Among x) a.added among));
        known = λ id r below at is from among. either id r below at is from among (dec_lt id n);
        ended = λ x among. ⊎_elim (λ (old : Among x before). h.ended x old) (λ (e : a.interval ≡ x).
            subst (λ (z : Interval). HasEndKnown v z.id z) e end_known)
            (among_last x a.interval before (subst (Among x) a.added among));
      }
        where
          same : a.interval.id ≡ n
          same = a.begun.id_is ∙ id_is

          mine : IsListedIntervalOf u v.learned.settled rows text a.interval
          mine = record {
            row = row;
            there = ap (slice_get rows) same ∙ there;
            text_is = a.text_is;
            begun = subst (λ (z : ℕ × ℕ). IsBegunInterval u z.0 z.1 a.interval) (λ i. (old.settled i, sym a.begun.id_is i)) a.begun;
          }

          end_known : HasEndKnown v a.interval.id a.interval
          end_known to among = a.ended to (old.extends.learns.words _ (subst (λ (z : ℕ).
              Among (record { index = row_at z 1; value = suc to }) v.learned.words) a.begun.id_is among))

          either : (id : ℕ) (r : Listed) → id < suc n → slice_get rows id ≡ Some r → r.def ≡ text → (from : ℕ)
              → Among (record { index = row_at id 0; value = suc from }) v.learned.words → Dec (id < n)
              → (x : Interval) × Among x after × (x.id ≡ id)
          either id r below at is from among (yes less) =
              let t = h.known id r less at is from among in
              (t.0, subst (Among t.0) (sym a.added) (among_left t.0 before (a.interval ∷ []) t.1), t.2)
          either id r below at is from among (no more) = (
            a.interval,
            subst (Among a.interval) (sym a.added) (among_right a.interval before (a.interval ∷ []) (inl refl)),
            same ∙ (omega arith),
          )
      by (inr (none, unbegun)) = record {
        each = λ x among. kept x (subst (Among x) none among);
        known = λ id r below at is from among. either id r below at is from among (dec_lt id n);
        ended = λ x among. h.ended x (subst (Among x) none among);
      }
        where
          either : (id : ℕ) (r : Listed) → id < suc n → slice_get rows id ≡ Some r → r.def ≡ text → (from : ℕ)
              → Among (record { index = row_at id 0; value = suc from }) v.learned.words → Dec (id < n)
              → (x : Interval) × Among x after × (x.id ≡ id)
          either id r below at is from among (yes less) =
              let t = h.known id r less at is from among in (t.0, subst (Among t.0) (sym none) t.1, t.2)
          either id r below at is from among (no more) =
              let place : id ≡ n = omega arith in
              let one : r ≡ row = same_Some _ _ (sym at ∙ ap (slice_get rows) place ∙ there) in
              absurd (unbegun (ap (λ (z : Listed). z.def) (sym one) ∙ is) from (old.extends.learns.words _ (subst (λ (z : ℕ).
              Among (record { index = row_at z 0; value = suc from }) v.learned.words) (place ∙ sym id_is) among)))
