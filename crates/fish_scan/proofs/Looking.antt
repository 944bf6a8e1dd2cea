-- Numbers that a scan looks at, one after the other.
use Rattle.std.proofs.Common.{◌≡◌, ◌≢◌, ℕ, ◌+◌, ◌<◌, ◌≤◌, suc, List, [], ◌∷◌, ◌++◌, length, refl, sym, ap, ◌∙◌, subst}
use Rattle.std.proofs.Common.{⊎_elim, inl, inr, ◌⊎◌, arith, Some, None, Option, slice_get, min, max}
use Rattle.std.proofs.Math.Decide.{dec_lt}
use Rattle.std.proofs.lemmas.Option.{slice_get_within}
use Rattle.fish_rule.proofs.laws.Clocks.{later_both, later_self, loaded_within}
use Rattle.fish_rule.proofs.laws.Alone.{knows_mark}
use Rattle.fish_rule.proofs.laws.Lists.{among_left, among_right}
use Rattle.fish_rule.proofs.laws.Learning.{learns_both, learns_self}
use Rattle.fish_rule.proofs.laws.OpenNumbers.{opens_last}
use Rattle.fish_rule.specs.Clocks.{HasLoaded, IsLater}
use Rattle.fish_rule.specs.Logs.{Extends, Learns, KnowsMark}
use Rattle.fish_rule.specs.LoadSteps.{IsAlone, after_look_at}
use Rattle.fish_rule.specs.Table.{Sees}
use Rattle.fish_rule.specs.OpenNumbers.{AreLast}
use Rattle.fish_rule.specs.Views.{Among}
use Rattle.fish_rule.specs.declared.view.Key.{Key}
use Rattle.fish_rule.specs.declared.view.Noted.TheVariants.{Directory}
use Rattle.fish_rule.specs.declared.view.Position.{Position}
use Rattle.fish_rule.specs.declared.view.View.{View}
use Rattle.fish_scan.proofs.Lists.{among_last, get_before, get_here, get_last, length_more}
use Rattle.fish_scan.proofs.Reaching.{reached_word, seen_still}
use Rattle.fish_scan.specs.Reach.{IsExact, Rise, WasOpen, end_of}
use Rattle.fish_scan.specs.within.Reach.{AreLooks, AreSeen, IsCutAt, IsReach, IsReached}
use Rattle.fish_scan.specs.declared.reach.Reach.{Reach}
use Rattle.fish_walk.proofs.Looking.{entry_later, look_loads, looked_both, stops_within, unknown_unfinished, zero_told}
use Rattle.fish_walk.specs.Looks.{HasOpens, IsLookAt, KeepsOpens, look_of_word, with_look}
use Rattle.fish_walk.specs.Settling.{HasLoadedCount, HasTail, IsEnd, OnlySettles, SettlesAt}
use Rattle.fish_walk.specs.within.Settling.{OnlyLooks}
use Rattle.fish_walk.specs.declared.outcome.Look.{Look}
use Rattle.fish_walk.specs.declared.outcome.Look.TheVariants as look

-- ---- numbers that rise

-- one more after
pub rise_more : (low high n : ℕ) (ns : List ℕ) → Rise low high ns → high ≤ n → Rise low (suc n) (ns ++ n ∷ [])
rise_more low high n [] rise more = (omega arith, omega arith)
rise_more low high n (m ∷ ns) rise more = (rise.0, rise_more (suc m) high n ns rise.1 more)

-- they stay below a greater number
pub rise_later : (low high more : ℕ) (ns : List ℕ) → Rise low high ns → high ≤ more → Rise low more ns
rise_later low high more [] rise less = omega arith
rise_later low high more (m ∷ ns) rise less = (rise.0, rise_later (suc m) high more ns rise.1 less)

-- they rise from a lower number too
pub rise_sooner : (less low high : ℕ) (ns : List ℕ) → less ≤ low → Rise low high ns → Rise less high ns
rise_sooner less low high [] lower rise = omega arith
rise_sooner less low high (m ∷ ns) lower rise = ((let a = rise.0 in omega arith), rise.1)

-- a number that was looked at after others
rise_look : (low n : ℕ) (r : Look) (ns : List ℕ) → Rise low n ns → Rise low (suc n) (with_look n r ns)
rise_look low n look.Unfinished ns rise = rise_more low n n ns rise (omega arith)
rise_look low n look.Void ns rise = rise_later low n (suc n) ns rise (omega arith)
rise_look low n look.Stored ns rise = rise_later low n (suc n) ns rise (omega arith)
rise_look low n look.Overflow ns rise = rise_later low n (suc n) ns rise (omega arith)

-- ---- open numbers

-- with a look more, the open ones are those of before, and the number where it told of no end
open_more : (m n : ℕ) (r : Look) (ns : List ℕ) → Among m (with_look n r ns) → Among m ns ⊎ ((r ≡ look.Unfinished) × (n ≡ m))
open_more m n look.Unfinished ns among =
    elim (among_last m n ns among) [ inl a ↦ inl a | inr e ↦ inr (refl, e) ]
open_more m n look.Void ns among = inl among
open_more m n look.Stored ns among = inl among
open_more m n look.Overflow ns among = inl among

-- those of before stay
open_still : (m n : ℕ) (r : Look) (ns : List ℕ) → Among m ns → Among m (with_look n r ns)
open_still m n look.Unfinished ns among = among_left m ns (n ∷ []) among
open_still m n look.Void ns among = among
open_still m n look.Stored ns among = among
open_still m n look.Overflow ns among = among

-- and the number is one where it told of none
open_here : (n : ℕ) (r : Look) (ns : List ℕ) → r ≡ look.Unfinished → Among n (with_look n r ns)
open_here n r ns is = subst (λ (z : Look). Among n (with_look n z ns)) (sym is) (among_right n ns (n ∷ []) (inl refl))

-- a look at a number tells that it is open
pub open_looked : (v m u : View) (n lines x word : ℕ) (r : Look) → Extends v m → u ≡ after_look_at m n lines x → r ≡ look_of_word x
    → Sees m n word → r ≡ look_of_word word → r ≡ look.Unfinished → WasOpen v u n
open_looked v m u n lines x word r before is told sees seen open_is = record {
  loaded = subst (HasLoaded v.clock u.clock (Directory n)) (zero_told x (sym told ∙ open_is))
      (loaded_within v.clock m.clock u.clock u.clock (Directory n) x before.clock (look_loads m u n lines x is) (later_self u.clock));
  unknown = unknown_unfinished v m n word before.learns sees (sym seen ∙ open_is);
}

-- what was open before a later view
pub open_later : (v m u : View) (n : ℕ) → IsLater m.clock u.clock → WasOpen v m n → WasOpen v u n
open_later v m u n later h = record {
  loaded = loaded_within v.clock v.clock m.clock u.clock (Directory n) 0 (later_self v.clock) h.loaded later;
  unknown = h.unknown;
}

-- what was open after an earlier one
pub open_sooner : (t v u : View) (n : ℕ) → Learns t v → IsLater t.clock v.clock → WasOpen v u n → WasOpen t u n
open_sooner t v u n learns later h = record {
  loaded = loaded_within t.clock v.clock u.clock u.clock (Directory n) 0 later h.loaded (later_self u.clock);
  unknown = λ known. h.unknown (entry_later t v n learns known);
}

-- ---- looks

-- one that tells of another thing tells of no mark
pub unmarked : (r : Look) → (r ≡ look.Unfinished) ⊎ ((r ≡ look.Void) ⊎ (r ≡ look.Stored)) → r ≢ look.Overflow
unmarked r (inl e) bad = (let f : look.Unfinished ≡ look.Overflow = sym e ∙ bad in cc)
unmarked r (inr (inl e)) bad = (let f : look.Void ≡ look.Overflow = sym e ∙ bad in cc)
unmarked r (inr (inr e)) bad = (let f : look.Stored ≡ look.Overflow = sym e ∙ bad in cc)

-- none yet
pub looks_none : (v : View) (first count : ℕ) (looks : List Look) (opens : List ℕ) → looks ≡ [] → opens ≡ []
    → HasOpens v count [] → AreLooks v v first first count looks opens
looks_none v first count looks opens none closed fresh =
    subst (λ (z : List Look × List ℕ). AreLooks v v first first count z.0 z.1) (λ i. (sym none i, sym closed i)) (record {
      seen = record {
        each = λ i r at. absurd (let bad : None ≡ Some r = at in cc);
        unfinished = λ i at. absurd (let bad : None ≡ Some look.Unfinished = at in cc);
        open_ones = λ n among. elim among [ ];
      };
      few = omega arith;
      stops = inl (omega arith);
      listed = fresh;
      were = λ n among. elim among [ ];
      rise = omega arith;
    })

-- what was seen, with one look more
seen_more : (v : View) (first n : ℕ) (looks : List Look) (opens : List ℕ) (r : Look) → first + length looks ≡ n
    → IsLookAt v n r → r ≢ look.Overflow → AreSeen v first looks opens
    → AreSeen v first (looks ++ r ∷ []) (with_look n r opens)
seen_more v first n looks opens r many at unmarked h = record {
  each = λ i s there. ⊎_elim (λ (e : slice_get looks i ≡ Some s). h.each i s e)
      (λ (e : (i ≡ length looks) × (r ≡ s)). last i s e.0 e.1) (get_last looks r s i there);
  unfinished = λ i there. ⊎_elim (λ (e : slice_get looks i ≡ Some look.Unfinished).
      open_still (first + i) n r opens (h.unfinished i e))
      (λ (e : (i ≡ length looks) × (r ≡ look.Unfinished)). subst (λ (z : ℕ). Among z (with_look n r opens)) (place i e.0)
      (open_here n r opens e.1)) (get_last looks r look.Unfinished i there);
  open_ones = λ m among. ⊎_elim (λ (a : Among m opens). before m (h.open_ones m a))
      (λ (e : (r ≡ look.Unfinished) × (n ≡ m)). here m e.0 e.1) (open_more m n r opens among);
}
  where
    place : (i : ℕ) → i ≡ length looks → n ≡ first + i
    place i is = omega arith

    last : (i : ℕ) (s : Look) → i ≡ length looks → r ≡ s → IsLookAt v (first + i) s × (s ≢ look.Overflow)
    last i s is same = (
      subst (λ (z : ℕ × Look). IsLookAt v z.0 z.1) (λ j. (place i is j, same j)) at,
      λ bad. unmarked (same ∙ bad),
    )

    before : (m : ℕ) → ((i : ℕ) × (m ≡ first + i) × (slice_get looks i ≡ Some look.Unfinished))
        → (i : ℕ) × (m ≡ first + i) × (slice_get (looks ++ r ∷ []) i ≡ Some look.Unfinished)
    before m t = (t.0, t.1, get_before looks (r ∷ []) look.Unfinished t.0 t.2)

    here : (m : ℕ) → r ≡ look.Unfinished → n ≡ m
        → (i : ℕ) × (m ≡ first + i) × (slice_get (looks ++ r ∷ []) i ≡ Some look.Unfinished)
    here m is same = (length looks, sym same ∙ place (length looks) refl, get_here looks r ∙ ap Some is)

module _ (v m u : View) (first n count : ℕ) (looks : List Look) (opens : List ℕ) (r : Look)
    (more : Extends m u) (h : AreLooks v m first n count looks opens) (many : first + length looks ≡ n)
    (below : n < count) (keeps : KeepsOpens m u n r) where
  -- with one look more
  pub looks_more : IsLookAt u n r → r ≢ look.Overflow → (r ≡ look.Unfinished → WasOpen v u n)
      → (after : List Look) (still : List ℕ) → after ≡ looks ++ r ∷ [] → still ≡ with_look n r opens
      → AreLooks v u first (suc n) count after still
  looks_more at unmarked was after still is open_is =
      subst (λ (z : List Look × List ℕ). AreLooks v u first (suc n) count z.0 z.1) (λ i. (sym is i, sym open_is i)) (record {
        seen = seen_more u first n looks opens r many at unmarked (seen_still m u first looks opens more.learns h.seen);
        few = (let e = longer in omega arith);
        stops = inl longer;
        listed = keeps count opens h.listed below;
        were = λ k among. ⊎_elim (λ (a : Among k opens). open_later v m u k more.clock (h.were k a))
            (λ (e : (r ≡ look.Unfinished) × (n ≡ k)). subst (WasOpen v u) e.1 (was e.0)) (open_more k n r opens among);
        rise = subst (λ (z : ℕ). Rise first z (with_look n r opens)) (sym longer)
            (rise_look first n r opens (subst (λ (z : ℕ). Rise first z opens) many h.rise));
      })
    where
      longer : first + length (looks ++ r ∷ []) ≡ suc n
      longer = (let e = length_more looks r in omega arith)

  -- or up to a mark
  pub looks_stop : (end : ℕ) → n ≤ end → r ≡ look.Overflow → IsLookAt u n r → AreLooks v u first end count looks opens
  looks_stop end less is at = record {
    seen = seen_still m u first looks opens more.learns h.seen;
    few = omega arith;
    stops = inr (subst (KnowsMark u) (sym many) (marked (subst (IsLookAt u n) is at)));
    listed = subst (λ (z : Look). HasOpens u count (with_look n z opens)) is (keeps count opens h.listed below);
    were = λ k among. open_later v m u k more.clock (h.were k among);
    rise = h.rise;
  }
    where
      marked : IsLookAt u n look.Overflow → KnowsMark u n
      marked f = subst (KnowsMark u) f.2 (knows_mark u f.0 f.1 f.3)

-- ---- the range

-- looks after a call that settled
pub settles_looks : (a b d : View) → OnlySettles a b → OnlyLooks b d → OnlySettles a d
settles_looks a b d h g = record {
  learns = learns_both a b d h.learns g.extends.learns;
  clock = later_both a.clock b.clock d.clock h.clock g.extends.clock;
  loads = g.loads ∙ h.loads;
  frame = g.extends.frame ∙ ap (λ (z : View). record z { learned = d.learned; clock = d.clock }) h.frame
      ∙ ap (λ (z : Option Position). record a { tail = z; learned = d.learned; clock = d.clock })
      (sym (ap (λ (z : View). z.tail) g.extends.frame));
}

-- of the numbers that were found open since one load of the tail, each is the last of its lane in a range of those counted
pub listed_last : (v : View) (count last : ℕ) (opens : List ℕ) → HasOpens v count opens → last ≤ count → AreLast v last opens
listed_last v count last opens h within m n lane f g p q at more below =
    let is = h.count_is in
    opens_last v h.last (subst (Among h.last) (sym h.opens) (inl refl)) m n lane f g p q (h.listed n at) more (omega arith)

-- the end of a range isn't past the one that is asked for
pub cut_within : (v : View) (stop from limit end : ℕ) → IsCutAt v stop from limit end → end ≤ limit
cut_within v stop from limit end (inl e) = omega arith
cut_within v stop from limit end (inr h) = (let less = h.1 in let same = h.2 in omega arith)

module _ (a b c d : View) (from : ℕ) (to : Option ℕ) (settled count end base first : ℕ) (reach : Reach)
    (settles : OnlySettles a b) (rises : a.learned.settled ≤ settled) (known : settled ≤ b.learned.settled)
    (stops : SettlesAt IsEnd a b settled count) (counted : HasLoadedCount a b count) (tail : HasTail b count) (cuts : OnlyLooks b c)
    (cut : IsCutAt c (max base settled) from (end_of to count) end) (base_is : base ≡ a.about.number)
    (first_is : first ≡ min (max (max base settled) from) end) (looked : OnlyLooks c d)
    (looks : AreLooks c d first end count reach.looks.items reach.opens) (settled_is : reach.settled ≡ settled)
    (begins : reach.first ≡ first) (ends : reach.to ≡ first + length reach.looks.items)
    (from_is : reach.from ≡ min from reach.to)
    (exact : IsAlone a → IsExact a d to count settled reach.to reach.opens) where
  -- all looks of the call
  looked_all : OnlyLooks b d
  looked_all = looked_both b c d cuts looked

  -- what was looked at can be read
  reach_reached : end ≤ count → IsReached d reach
  reach_reached less =
      let many = looks.few in
      let more = looked_all.settled in
      let all = looked_all.count in
      let tail_is = tail.3 in
      record {
        settled = omega arith;
        counted = omega arith;
        many = omega arith;
        ordered = omega arith;
        below = below;
        above = omega arith;
        seen = subst (λ (z : ℕ). AreSeen d z reach.looks.items reach.opens) (sym begins) looks.seen;
      }
    where
      below : (n : ℕ) → d.about.number ≤ n → reach.from ≤ n → n < reach.first → n < reach.settled
      below n base after before =
          let about = ap (λ (z : Key). z.number) (looked_all.extends.learns.about ∙ settles.learns.about) in
          omega arith

  pub reach_found : IsReach a d from to reach
  reach_found = record {
    range = record {
      first_is = from_is;
      count = count;
      counted = record {
        tail = counted.tail;
        loaded = loaded_within _ _ _ _ _ _ (later_self a.clock) counted.loaded looked_all.extends.clock;
        is = counted.is;
      };
      known = (let e = tail.3 in let m = settles.learns.count in omega arith);
      claimed = (let e = tail.3 in let m = looked_all.count in omega arith);
      within = (let f = looks.few in let most = within in omega arith);
      stops = ⊎_elim (λ (e : first + length reach.looks.items ≡ end). at_end e cut)
          (λ (m : KnowsMark d (first + length reach.looks.items)). at_mark m (dec_lt (first + length reach.looks.items) end))
          looks.stops;
      rise = rise_sooner reach.from first reach.to reach.opens (let f = looks.few in omega arith)
          (subst (λ (z : ℕ). Rise first z reach.opens) (sym ends) looks.rise);
      were = λ n among. open_sooner a c d n (learns_both a b c settles.learns cuts.extends.learns)
          (later_both a.clock b.clock c.clock settles.clock cuts.extends.clock) (looks.were n among);
      latest = listed_last d count reach.to reach.opens looks.listed (let f = looks.few in omega arith);
      others = λ n above least most closed. reached_word d reach (reach_reached less) n
          (subst (λ (z : Key). z.number ≤ n) (sym (looked_all.extends.learns.about ∙ settles.learns.about)) above)
          least most closed;
    };
    reached = reach_reached less;
    opened = opened;
    stops_at = subst (λ (z : ℕ). SettlesAt IsEnd a d z count) (sym settled_is)
        (stops_within IsEnd a a b d settled count (learns_self a) (later_self a.clock) stops looked_all.extends.clock);
    settled = omega arith;
    exact = λ alone. subst (λ (z : ℕ). IsExact a d to count z reach.to reach.opens) (sym settled_is) (exact alone);
    reaches = (let e = looked_all.settled in omega arith);
  }
    where
      within : end ≤ end_of to count
      within = cut_within c (max base settled) from (end_of to count) end cut

      less : end ≤ count
      less = omega arith

      -- a number that was looked at is none below the base
      opened : (n : ℕ) → Among n reach.opens → d.about.number ≤ n
      opened n among =
          let t = looks.seen.open_ones n among in
          let is = t.1 in
          let within = slice_get_within reach.looks.items t.0 look.Unfinished t.2 in
          let most = looks.few in
          let about = ap (λ (z : Key). z.number) (looked_all.extends.learns.about ∙ settles.learns.about) in
          omega arith

      -- where no look told of a mark, the range ends where it is asked to, or was cut at one
      at_end : first + length reach.looks.items ≡ end → IsCutAt c (max base settled) from (end_of to count) end
          → (reach.to ≡ end_of to count) ⊎ (KnowsMark d reach.to × (d.about.number ≤ reach.to))
      at_end e (inl is) = inl (omega arith)
      at_end e (inr h) = inr (
        subst (KnowsMark d) (sym (ends ∙ e ∙ h.2)) (λ x more. h.3 x (learns_both c d x looked.extends.learns more)),
        let about = ap (λ (z : Key). z.number) (looked_all.extends.learns.about ∙ settles.learns.about) in
            let found = h.2 in
            omega arith,
      )

      -- a look that told of a mark before the end was made in the table
      at_mark : KnowsMark d (first + length reach.looks.items) → Dec (first + length reach.looks.items < end)
          → (reach.to ≡ end_of to count) ⊎ (KnowsMark d reach.to × (d.about.number ≤ reach.to))
      at_mark m (yes less) = inr (
        subst (KnowsMark d) (sym ends) m,
        let about = ap (λ (z : Key). z.number) (looked_all.extends.learns.about ∙ settles.learns.about) in omega arith,
      )
      at_mark m (no not_less) = at_end (let few = looks.few in omega arith) cut
