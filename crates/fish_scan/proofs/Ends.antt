-- Where the log ends for a pass that is alone, and that its range ends there.
use Rattle.std.proofs.Common.{◌≡◌, ◌≢◌, ℕ, ◌+◌, ◌<◌, ◌≤◌, List, [], length, refl, sym, ap, ◌∙◌, subst}
use Rattle.std.proofs.Common.{⊎_elim, inl, inr, ◌⊎◌, arith, Some, None, Option, min, max}
use Rattle.std.proofs.Math.Decide.{dec_lt}
use Rattle.std.proofs.Math.ListN.{get_or}
use Rattle.std.proofs.lemmas.Option.{slice_get-get_or}
use Rattle.fish_rule.proofs.laws.Alone.{alone_later}
use Rattle.fish_rule.proofs.laws.Learning.{learns_self}
use Rattle.fish_rule.specs.Logs.{KnowsMark}
use Rattle.fish_rule.specs.Parts.{IsEntryWord, RestsAt}
use Rattle.fish_rule.specs.LoadSteps.{IsAlone}
use Rattle.fish_rule.specs.Regions.{code}
use Rattle.fish_rule.specs.Table.{IsOfMoment}
use Rattle.fish_rule.specs.Views.{Among}
use Rattle.fish_rule.specs.ChainFacts.{Always}
use Rattle.fish_rule.specs.World.{high, low}
use Rattle.fish_rule.specs.declared.view.Kind.TheVariants.{Mark, Stored, Void}
use Rattle.fish_rule.specs.declared.view.View.{View}
use Rattle.fish_scan.proofs.Reaching.{found_word}
use Rattle.fish_scan.specs.Reach.{IsExact, end_of}
use Rattle.fish_scan.specs.within.Reach.{AreLooks, IsCutAt}
use Rattle.fish_walk.proofs.Looking.{ends_later}
use Rattle.fish_walk.specs.Looks.{IsLookAt, IsTailCount, with_look}
use Rattle.fish_walk.specs.Settling.{EndsAt, HasTail, OnlySettles}
use Rattle.fish_walk.specs.within.Settling.{OnlyLooks}
use Rattle.fish_walk.specs.declared.outcome.Look.{Look}
use Rattle.fish_walk.specs.declared.outcome.Look.TheVariants as look

-- ---- marks

module _ (u : View) (s : IsOfMoment u) where
  -- no entry stands at a mark
  no_entry : (n : ℕ) → KnowsMark u n → Always u (λ k w. IsEntryWord (w.dir n)) → ⊥
  no_entry n mark entry = (entry u (learns_self u) s.moment s.rule s.seat s.at).unmarked
      (mark u (learns_self u) s.moment s.rule s.seat s.at)

  -- so a look there tells of a mark, or of an unfinished number
  pub look_mark : (n : ℕ) (r : Look) → KnowsMark u n → IsLookAt u n r → r ≢ look.Unfinished → r ≡ look.Overflow
  look_mark n look.Unfinished mark at some = absurd (some refl)
  look_mark n look.Void mark at some = absurd (no_entry n mark (found_word u n Void (λ e. cc) at))
  look_mark n look.Stored mark at some = absurd (no_entry n mark (found_word u n Stored (λ e. cc) at))
  look_mark n look.Overflow mark at some = refl

  -- a mark isn't below the log's first number
  mark_above : (n : ℕ) → KnowsMark u n → u.about.number ≤ n
  unfolding high
  mark_above n mark = pick (dec_lt n u.about.number)
    where
      pick : Dec (n < u.about.number) → u.about.number ≤ n
      pick (no above) = omega arith
      pick (yes below) =
          let none : s.moment.dir n ≡ 0 = s.rule.space.dir_below n below in
          let is : high (s.moment.dir n) ≡ code Mark = mark u (learns_self u) s.moment s.rule s.seat s.at in
          let zero_ : high 0 ≡ code Mark = ap high (sym none) ∙ is in
          absurd (omega (arith, zero_))

  -- nor is the number at which the log ends for a pass that is alone
  pub end_above : (n count : ℕ) → IsAlone u → HasTail u count → EndsAt u n count → u.about.number ≤ n
  end_above n count alone tail (inr m) = mark_above n m.1
  end_above n count alone tail (inl e) =
      let w = s.moment in
      let rests : RestsAt w.count w.line (Some (record { number = high tail.0; line = low tail.0 })) =
      subst (RestsAt w.count w.line) tail.1 (s.rule.tails s.seat u s.at alone.control alone.all) in
      let all : high tail.0 ≡ w.count = rests.0 in
      let same = tail.2 in
      let some = s.rule.space.regions.some in
      omega arith

  -- a range that begins at the end of the log, or before it, is looked at up to there
  pub looks_end : (v : View) (n first end count : ℕ) (looks : List Look) (opens : List ℕ) → opens ≡ [] → EndsAt u n count
      → end ≤ count → AreLooks v u first end count looks opens → (end ≤ n → first ≡ end) → (n < end → first ≡ n)
      → first + length looks ≡ min n end
  looks_end v n first end count looks opens none (inl e) less h before behind =
      (let few = h.few in let same = before (omega arith) in omega arith)
  looks_end v n first end count looks opens none (inr m) less h before behind = pick (dec_lt n end)
    where
      -- at the mark nothing else was seen
      no_look : n < end → 0 < length looks → ⊥
      no_look inside some =
          let at = slice_get-get_or looks 0 look.Stored some in
          let seen = h.seen.each 0 _ at in
          let place : first + 0 ≡ n = (let same = behind inside in omega arith) in
          let closed : get_or looks 0 look.Stored ≢ look.Unfinished =
          λ is. elim (subst (Among (first + 0)) none (h.seen.unfinished 0 (at ∙ ap Some is))) [ ] in
          seen.1 (look_mark (first + 0) (get_or looks 0 look.Stored) (subst (KnowsMark u) (sym place) m.1) seen.0 closed)

      pick : Dec (n < end) → first + length looks ≡ min n end
      pick (no more) = (let few = h.few in let same = before (omega arith) in omega arith)
      pick (yes inside) = some (dec_lt 0 (length looks))
        where
          some : Dec (0 < length looks) → first + length looks ≡ min n end
          some (yes seen) = absurd (no_look inside seen)
          some (no empty) = (let same = behind inside in omega arith)

-- ---- open numbers

-- a look that tells of no unfinished number opens none
pub none_open : (n : ℕ) (r : Look) (ns : List ℕ) → r ≢ look.Unfinished → ns ≡ [] → with_look n r ns ≡ []
none_open n look.Unfinished ns closed none = absurd (closed refl)
none_open n look.Void ns closed none = none
none_open n look.Stored ns closed none = none
none_open n look.Overflow ns closed none = none

-- ---- the range

-- a pass that is alone stays alone as it settles numbers
pub settles_alone : (v u : View) → OnlySettles v u → IsAlone v → IsAlone u
settles_alone v u h alone = record {
  control = ap (λ (z : View). z.lane) h.frame ∙ alone.control;
  all = ap (λ (z : View). z.out) h.frame ∙ alone.all;
  idle = ap (λ (z : View). z.flight) h.frame ∙ alone.idle;
}

-- the end that is asked for, if it isn't past the settled number
asked_settled : (to : Option ℕ) (n count end : ℕ) → n ≤ count → (end ≡ end_of to count) ⊎ ((n < end_of to count) × (end ≡ n))
    → min n end ≡ end_of to n
asked_settled None n count end less (inl e) = omega arith
asked_settled None n count end less (inr h) = (let same = h.1 in omega arith)
asked_settled (Some t) n count end less (inl e) = omega arith
asked_settled (Some t) n count end less (inr h) = (let below = h.0 in let same = h.1 in omega arith)

-- the number at which the log ends isn't past the count
ends_within : (u : View) (n count : ℕ) → EndsAt u n count → n ≤ count
ends_within u n count (inl e) = omega arith
ends_within u n count (inr m) = (let less = m.0 in omega arith)

-- the views of a call: as it began, and after each of its parts
module _ (a b c d : View) (from : ℕ) (to : Option ℕ) (settled count base stop end first last : ℕ) (looks : List Look)
    (opens : List ℕ) (settles : OnlySettles a b) (cuts : OnlyLooks b c) (looked : OnlyLooks c d) (sb : IsOfMoment b) (sd : IsOfMoment d)
    (tail : HasTail b count) (rests : IsAlone a → IsTailCount count a.tail) (ends : IsAlone a → EndsAt b settled count)
    (base_is : base ≡ b.about.number) (stop_is : stop ≡ max base settled) (cut : IsCutAt c stop from (end_of to count) end)
    (alone_cut : IsAlone b → stop < from → KnowsMark c stop → end ≤ stop) (first_is : first ≡ min (max stop from) end)
    (are : AreLooks c d first end count looks opens) (closed : IsAlone c → opens ≡ []) (last_is : last ≡ first + length looks) where
  -- a pass that was alone has reached all that it was asked for
  pub exact_found : IsAlone a → IsExact a d to count settled last opens
  exact_found alone = record {
    counted = rests alone;
    ends = at_end;
    last_is = last_is ∙ looks_end d sd c settled first end count looks opens none at_end inside are (λ less. omega arith) begins
        ∙ asked_settled to settled count end within asked;
    closed = none;
  }
    where
      alone_b : IsAlone b
      alone_b = settles_alone a b settles alone

      none : opens ≡ []
      none = closed (alone_later b c cuts.extends alone_b)

      at_c : EndsAt c settled count
      at_c = ends_later b c settled count cuts.extends.learns (ends alone)

      at_end : EndsAt d settled count
      at_end = ends_later c d settled count looked.extends.learns at_c

      within : settled ≤ count
      within = ends_within d settled count at_end

      above : stop ≡ settled
      above = (let e = end_above b sb settled count alone_b tail (ends alone) in omega arith)

      inside : end ≤ count
      inside = ⊎_elim (λ (e : end ≡ end_of to count). omega arith)
          (λ (h : (stop < from) × (stop < end_of to count) × (end ≡ stop) × KnowsMark c stop).
          let less = h.1 in let same = h.2 in omega arith) cut

      asked : (end ≡ end_of to count) ⊎ ((settled < end_of to count) × (end ≡ settled))
      asked = ⊎_elim (λ (e : end ≡ end_of to count). inl e)
          (λ (h : (stop < from) × (stop < end_of to count) × (end ≡ stop) × KnowsMark c stop).
          inr ((let less = h.1 in let same = above in omega arith), h.2 ∙ above)) cut

      -- past the log's end nothing is looked at
      begins : settled < end → first ≡ settled
      begins less = pick (dec_lt stop from)
        where
          pick : Dec (stop < from) → first ≡ settled
          pick (no not_behind) = (let same = above in omega arith)
          pick (yes behind) = ⊎_elim (λ (e : settled ≡ count). absurd (let i = inside in omega arith))
              (λ (m : (settled < count) × KnowsMark c settled).
              let most = alone_cut alone_b behind (subst (KnowsMark c) (sym above) m.1) in let same = above in absurd (omega arith)) at_c
