-- What loads and looks tell, one after the other.
use Rattle.std.proofs.Common.{◌≡◌, ◌≢◌, ℕ, ◌+◌, ◌<◌, ◌≤◌, zero, suc, List, [], ◌∷◌, ◌∙◌, ◌⊎◌}
use Rattle.fish_rule.proofs.laws.Lists.{among_either}
use Rattle.fish_layout.specs.Cleared.{choose}
use Rattle.std.proofs.Common.{refl, sym, ap, subst, ⊎_elim, inl, inr, arith}
use Rattle.std.proofs.Math.Decide.{dec_lt}
use Rattle.fish_rule.proofs.laws.Alone.{seen, seen_here, knows_mark}
use Rattle.fish_rule.proofs.laws.Clocks.{later_self, loaded_within, noted_load}
use Rattle.fish_rule.proofs.laws.Learning.{extends_both, extends_look, extends_self, learns_both, learns_self}
use Rattle.fish_rule.specs.Clocks.{HasLoaded, IsLater}
use Rattle.fish_rule.specs.Logs.{Extends, Learns, KnowsMark}
use Rattle.fish_rule.specs.LoadSteps.{after_look_at, found_after, kind_told, opens_after}
use Rattle.fish_rule.specs.Table.{Sees, IsOfMoment}
use Rattle.fish_rule.specs.Views.{Among}
use Rattle.fish_rule.specs.World.{high, low}
use Rattle.fish_rule.specs.declared.view.Found.{Found}
use Rattle.fish_rule.specs.declared.view.Kind.{Kind}
use Rattle.fish_rule.specs.declared.view.Kind.TheVariants.{Mark, Stored, Void}
use Rattle.fish_rule.specs.declared.view.Noted.TheVariants.{Directory}
use Rattle.fish_rule.specs.declared.view.Opens.{Opens}
use Rattle.fish_rule.specs.declared.view.View.{View}
use Rattle.fish_walk.specs.Looks.{HasFound, HasOpens, IsLookAt, KeepsOpens, KnowsEntry, look_of_word, look_of_kind, with_look}
use Rattle.fish_walk.specs.Settling.{EndsAt, IsEnd, IsMark, SettlesAt}
use Rattle.fish_walk.specs.within.Settling.{AreSettled, OnlyLooks}
use Rattle.fish_walk.specs.declared.outcome.Look.{Look}
use Rattle.fish_walk.specs.declared.outcome.Look.TheVariants as look

-- ---- loads

-- an entry that is known is known later
pub entry_later : (v u : View) (n : ℕ) → Learns v u → KnowsEntry v n → KnowsEntry u n
entry_later v u n learns h x more = h x (learns_both v u x learns more)

-- a stop was found between two views that lie further apart
pub stops_within : (P : ℕ → Type 0) (a b c d : View) (number count : ℕ) → Learns a b → IsLater a.clock b.clock
    → SettlesAt P b c number count → IsLater c.clock d.clock → SettlesAt P a d number count
stops_within P a b c d number count learns p (inl e) q = inl e
stops_within P a b c d number count learns p (inr h) q = inr (record {
  below = h.below;
  word = h.word;
  loaded = loaded_within a.clock b.clock c.clock d.clock (Directory number) h.word p h.loaded q;
  ends = h.ends;
  unknown = λ known. h.unknown (entry_later a b number learns known);
})

-- ---- looks

-- a look is a load of the directory word
pub look_loads : (v u : View) (n lines x : ℕ) → u ≡ after_look_at v n lines x
    → HasLoaded v.clock u.clock (Directory n) x
look_loads v u n lines x e =
    subst (λ (z : View). HasLoaded v.clock z.clock (Directory n) x) (sym e) (noted_load v.clock (Directory n) x)

-- what was found unpublished before, with one list more in front or not
module _ (n : ℕ) (last : Opens) (before : List Opens) where
  -- the list with the number before the others, or the others alone
  abbrev longer : Dec (n < last.count) → List Opens
  longer d = choose d (record { count = last.count; numbers = n ∷ last.numbers } ∷ last ∷ before) (last ∷ before)

  -- a list of the same count is in front, with all numbers of before
  longer_keeps : (lists : List Opens) (d : Dec (n < last.count)) → lists ≡ longer d → (o : Opens) × (rest : List Opens)
      × (lists ≡ o ∷ rest) × (o.count ≡ last.count) × ((m : ℕ) → Among m last.numbers → Among m o.numbers)
  longer_keeps lists (yes h) e =
      (record { count = last.count; numbers = n ∷ last.numbers }, last ∷ before, e, refl, λ m a. inr a)
  longer_keeps lists (no h) e = (last, before, e, refl, λ m a. a)

  -- and the number is in it where it is below the count
  longer_has : (lists : List Opens) (d : Dec (n < last.count)) → n < last.count → lists ≡ longer d
      → (o : Opens) × (rest : List Opens) × (lists ≡ o ∷ rest) × (o.count ≡ last.count)
      × ((m : ℕ) → Among m last.numbers → Among m o.numbers) × Among n o.numbers
  longer_has lists (yes h) below e =
      (record { count = last.count; numbers = n ∷ last.numbers }, last ∷ before, e, refl, (λ m a. inr a), inl refl)
  longer_has lists (no h) below e = absurd (h below)

-- a look leaves in front what was found unpublished since the same load
opens_still : (v u : View) (n lines x count : ℕ) (numbers : List ℕ) → u ≡ after_look_at v n lines x → HasOpens v count numbers
    → HasOpens u count numbers
opens_still v u n lines x count numbers e h = by x (ap (λ (z : View). z.learned.opens) e)
  where
    lists : (y : ℕ) → opens_after n y v.learned.opens ≡ opens_after n y (h.last ∷ h.before)
    lists y = ap (opens_after n y) h.opens

    by : (y : ℕ) → u.learned.opens ≡ opens_after n y v.learned.opens → HasOpens u count numbers
    by (suc y) is = record { last = h.last; before = h.before; opens = is ∙ h.opens; count_is = h.count_is; listed = h.listed }
    by zero is =
        let t = longer_keeps n h.last h.before u.learned.opens (dec_lt n h.last.count) (is ∙ lists zero) in
        record {
          last = t.0;
          before = t.1;
          opens = t.2;
          count_is = t.3 ∙ h.count_is;
          listed = λ m among. t.4 m (h.listed m among);
        }

-- and so the list of a load
begun_still : (v : View) (n lines x count : ℕ) → HasOpens v count [] → HasOpens (after_look_at v n lines x) count []
begun_still v n lines x count h = opens_still v (after_look_at v n lines x) n lines x count [] refl h

-- a number that was found unpublished joins the others
pub opens_looked : (v u : View) (n lines x : ℕ) (r : Look) → u ≡ after_look_at v n lines x → r ≡ look_of_word x
    → KeepsOpens v u n r
opens_looked v u n lines x r e is count numbers h below =
    subst (λ (z : Look). HasOpens u count (with_look n z numbers)) (sym is) (by x e)
  where
    by : (y : ℕ) → u ≡ after_look_at v n lines y → HasOpens u count (with_look n (look_of_word y) numbers)
    by (suc y) e = told (kind_told (high (suc y)))
      where
        still : HasOpens u count numbers
        still = opens_still v u n lines (suc y) count numbers e h

        told : (kind : Kind) → HasOpens u count (with_look n (look_of_kind kind) numbers)
        told Stored = still
        told Void = still
        told Mark = still
    by zero e =
        let t = longer_has n h.last h.before u.learned.opens (dec_lt n h.last.count)
        (subst (λ (z : ℕ). n < z) (sym h.count_is) below)
        (ap (λ (z : View). z.learned.opens) e ∙ ap (opens_after n zero) h.opens) in
        record {
          last = t.0;
          before = t.1;
          opens = t.2;
          count_is = t.3 ∙ h.count_is;
          listed = λ m among. ⊎_elim (λ (old : Among m numbers). t.4 m (h.listed m old))
              (λ (new : Among m (n ∷ [])). ⊎_elim (λ (is : n ≡ m). subst (λ (z : ℕ). Among z t.0.numbers) is t.5)
              (λ (none : ⊥). absurd none) new) (among_either m numbers (n ∷ []) among);
        }

-- what a look told of a number is found
pub look_found : (v u : View) (n lines x : ℕ) (r : Look) → u ≡ after_look_at v n lines x → r ≡ look_of_word x → IsLookAt u n r
look_found v u n lines x r e is = subst (IsLookAt u n) (sym is) (by x e)
  where
    by : (y : ℕ) → u ≡ after_look_at v n lines y → IsLookAt u n (look_of_word y)
    by zero e = tt
    by (suc y) e = told (kind_told (high (suc y))) refl
      where
        told : (kind : Kind) → kind_told (high (suc y)) ≡ kind → IsLookAt u n (look_of_kind kind)
        told kind same = by_kind kind (
          record { number = n; kind = kind_told (high (suc y)); line = low (suc y); lines = lines },
          subst (λ (z : View). Among (record { number = n; kind = kind_told (high (suc y)); line = low (suc y); lines = lines })
              z.learned.found) (sym e) (inl refl),
          refl,
          same,
        )
          where
            by_kind : (kind : Kind) → HasFound u n kind → IsLookAt u n (look_of_kind kind)
            by_kind Stored h = h
            by_kind Void h = h
            by_kind Mark h = h

-- and nothing else is learned by it
pub look_looks : (v u : View) (n lines x : ℕ) → u ≡ after_look_at v n lines x → OnlyLooks v u
look_looks v u n lines x e = record {
  extends = subst (λ (z : View). Extends v z) (sym e) (extends_look v n lines x);
  count = ap (λ (z : View). z.learned.count) e;
  settled = ap (λ (z : View). z.learned.settled) e;
  loads = ap (λ (z : View). z.clock.loads) e;
  opens = λ count h. subst (λ (z : View). HasOpens z count []) (sym e) (begun_still v n lines x count h);
}

-- a view to which no look was added
pub looked_self : (v : View) → OnlyLooks v v
looked_self v = record { extends = extends_self v; count = refl; settled = refl; loads = refl; opens = λ count h. h }

-- and one to which looks were added twice
pub looked_both : (a b c : View) → OnlyLooks a b → OnlyLooks b c → OnlyLooks a c
looked_both a b c p q = record {
  extends = extends_both a b c p.extends q.extends;
  count = q.count ∙ p.count;
  settled = q.settled ∙ p.settled;
  loads = q.loads ∙ p.loads;
  opens = λ count h. q.opens count (p.opens count h);
}

-- a look that tells of an end has found an end's word
pub end_told : (r : Look) (x : ℕ) → r ≡ look_of_word x → (r ≡ look.Unfinished) ⊎ (r ≡ look.Overflow) → IsEnd x
end_told r x e (inl is) = inl (sym e ∙ is)
end_told r x e (inr is) = inr (sym e ∙ is)

-- and that of a mark, where no number is unfinished
pub mark_told : (r : Look) (x : ℕ) → r ≡ look_of_word x → r ≢ look.Unfinished
    → (r ≡ look.Unfinished) ⊎ (r ≡ look.Overflow) → IsMark x
mark_told r x e ne (inl is) = absurd (ne is)
mark_told r x e ne (inr is) = sym e ∙ is

-- so the numbers stop here
pub stops_by : (P : ℕ → Type 0) (a v u : View) (n lines x count : ℕ) → OnlyLooks a v → u ≡ after_look_at v n lines x
    → P x → n < count → ¬ KnowsEntry a n → SettlesAt P a u n count
stops_by P a v u n lines x count looked e ends below unknown = inr (record {
  below = below;
  word = x;
  loaded = loaded_within a.clock v.clock u.clock u.clock (Directory n) x looked.extends.clock
      (look_loads v u n lines x e) (later_self u.clock);
  ends = ends;
  unknown = unknown;
})

-- a number at which the numbers stop is at most the count
pub stops_below : (P : ℕ → Type 0) (v u : View) (number count : ℕ) → SettlesAt P v u number count → number ≤ count
stops_below P v u number count (inl e) = omega arith
stops_below P v u number count (inr h) = (let below = h.below in omega arith)

-- what is told of a void or a record is neither
entry_told : (r w : Look) → r ≡ w → (r ≡ look.Void) ⊎ (r ≡ look.Stored)
    → (w ≢ look.Unfinished) × (w ≢ look.Overflow)
entry_told r w e (inl is) = (
  λ g. let bad : look.Void ≡ look.Unfinished = sym is ∙ e ∙ g in cc,
  λ g. let bad : look.Void ≡ look.Overflow = sym is ∙ e ∙ g in cc,
)
entry_told r w e (inr is) = (
  λ g. let bad : look.Stored ≡ look.Unfinished = sym is ∙ e ∙ g in cc,
  λ g. let bad : look.Stored ≡ look.Overflow = sym is ∙ e ∙ g in cc,
)

-- such a look has found a number that is published and no mark
found_entry : (n lines x : ℕ) (found : List Found) → look_of_word x ≢ look.Unfinished → look_of_word x ≢ look.Overflow
    → (f : Found) × Among f (found_after n lines x found) × (f.number ≡ n) × (f.kind ≢ Mark)
found_entry n lines zero found some plain = absurd (some refl)
found_entry n lines (suc x) found some plain = (
  record { number = n; kind = kind_told (high (suc x)); line = low (suc x); lines = lines },
  inl refl,
  refl,
  λ e. plain (ap look_of_kind e),
)

-- so one number more is settled
pub settled_more : (v u : View) (first n lines x : ℕ) (r : Look) → u ≡ after_look_at v n lines x → r ≡ look_of_word x
    → (r ≡ look.Void) ⊎ (r ≡ look.Stored) → AreSettled v first n → AreSettled u first (n + 1)
settled_more v u first n lines x r e told is settled m above below = pick (dec_lt m n)
  where
    pick : Dec (m < n) → (f : Found) × Among f u.learned.found × (f.number ≡ m) × (f.kind ≢ Mark)
    pick (yes less) =
        let h = settled m above less in
        let more = (look_looks v u n lines x e).extends.learns.found in
        (h.0, more h.0 h.1, h.2, h.3)
    pick (no not_less) =
        let same : n ≡ m = omega arith in
        let entry = entry_told r (look_of_word x) told is in
        let here = found_entry n lines x v.learned.found entry.0 entry.1 in
        (here.0, subst (λ (z : View). Among here.0 z.learned.found) (sym e) here.1, here.2 ∙ same, here.3)

-- what was settled before a look is settled after it
pub settled_still : (v u : View) (first n : ℕ) → OnlyLooks v u → AreSettled v first n → AreSettled u first n
settled_still v u first n looked settled m above below =
    let h = settled m above below in
    (h.0, looked.extends.learns.found h.0 h.1, h.2, h.3)

-- a look that tells of a mark found one
marked : (v u : View) (n lines x : ℕ) → u ≡ after_look_at v n lines x → IsMark x → KnowsMark u n
marked v u n lines zero e is = absurd (let bad : look.Unfinished ≡ look.Overflow = is in cc)
marked v u n lines (suc x) e is =
    knows_mark u (seen n lines (suc x)) (seen_here v u n lines (suc x) e (λ h. omega arith))
    (mark_kind (kind_told (high (suc x))) is)
  where
    mark_kind : (kind : Kind) → look_of_kind kind ≡ look.Overflow → kind ≡ Mark
    mark_kind Mark h = refl
    mark_kind Stored h = absurd (let bad : look.Stored ≡ look.Overflow = h in cc)
    mark_kind Void h = absurd (let bad : look.Void ≡ look.Overflow = h in cc)

-- ---- what wasn't known

-- a word that tells of an unfinished number is 0
pub zero_told : (word : ℕ) → look_of_word word ≡ look.Unfinished → word ≡ 0
zero_told zero is = refl
zero_told (suc x) is = of_kind (kind_told (high (suc x))) is
  where
    of_kind : (kind : Kind) → look_of_kind kind ≡ look.Unfinished → suc x ≡ 0
    of_kind Stored bad = cc
    of_kind Void bad = cc
    of_kind Mark bad = cc

-- a number that is found unfinished wasn't known to be an entry's
pub unknown_unfinished : (a v : View) (n word : ℕ) → Learns a v → Sees v n word → look_of_word word ≡ look.Unfinished
    → ¬ KnowsEntry a n
unknown_unfinished a v n word learns s is known =
    (known v learns s.moment s.rule s.seat s.at).published (sym s.is ∙ zero_told word is)

-- and no more was one at which the numbers end
pub unknown_end : (a v u : View) (n lines x word : ℕ) (r : Look) → OnlyLooks a v → u ≡ after_look_at v n lines x → r ≡ look_of_word x
    → IsOfMoment u → Sees v n word → r ≡ look_of_word word → (r ≡ look.Unfinished) ⊎ (r ≡ look.Overflow) → ¬ KnowsEntry a n
unknown_end a v u n lines x word r looked e told stands sees seen (inl is) known =
    unknown_unfinished a v n word looked.extends.learns sees (sym seen ∙ is) known
unknown_end a v u n lines x word r looked e told stands sees seen (inr is) known =
    let learns = learns_both a v u looked.extends.learns (look_looks v u n lines x e).extends.learns in
    (known u learns stands.moment stands.rule stands.seat stands.at).unmarked
    (marked v u n lines x e (sym told ∙ is) u (learns_self u) stands.moment stands.rule stands.seat stands.at)

-- so the log ends there
pub ends_by : (v u : View) (n lines x count : ℕ) (r : Look) → u ≡ after_look_at v n lines x → r ≡ look_of_word x
    → r ≢ look.Unfinished → (r ≡ look.Unfinished) ⊎ (r ≡ look.Overflow) → n < count → EndsAt u n count
ends_by v u n lines x count r e told ne is below = inr (below, marked v u n lines x e (mark_told r x told ne is))

-- and ends there for a view that knows more
pub ends_later : (v u : View) (n count : ℕ) → Learns v u → EndsAt v n count → EndsAt u n count
ends_later v u n count learns (inl e) = inl e
ends_later v u n count learns (inr h) = inr (h.0, λ x more. h.1 x (learns_both v u x learns more))
