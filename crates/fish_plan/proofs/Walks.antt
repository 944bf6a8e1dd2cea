-- What a walk over intervals has found, with one interval more.
use Rattle.std.proofs.Common.{◌≡◌, ℕ, ◌+◌, ◌-◌, ◌<◌, ◌≤◌, List, [], ◌∷◌, ◌++◌, Option, Some, None, ◌⊎◌, inl, inr}
use Rattle.std.proofs.Common.{length, get_or, take, sym, subst, ◌∙◌, arith}
use Rattle.std.proofs.Math.Decide.{dec_lt}
use Rattle.fish_catalog.specs.declared.interval.Interval.{Interval}
use Rattle.fish_plan.proofs.Lists.{last, longer, push_cases}
use Rattle.fish_plan.specs.Intervals.{Holds, IsBelowEnd, IsHeldBy}
use Rattle.std.proofs.lemmas.List.{take_more}
use Rattle.std.proofs.lemmas.Option.{slice_get-get_or}
use Rattle.fish_plan.specs.within.Next.{IsLowEnd, KeepsLowEnd}

-- a number that is held stays so
pub held_longer : (xs : List Interval) (x : Interval) (n : ℕ) → IsHeldBy xs n → IsHeldBy (xs ++ x ∷ []) n
held_longer xs x n h =
    record { position = h.position; interval = h.interval; there = longer xs x h.interval h.position h.there; holds = h.holds }

-- the new interval holds its own
pub held_last : (xs : List Interval) (x : Interval) (n : ℕ) → Holds x n → IsHeldBy (xs ++ x ∷ []) n
held_last xs x n h = record { position = length xs; interval = x; there = last xs x; holds = h }

-- and no other number is held
pub held_cases : (xs : List Interval) (x : Interval) (n : ℕ) → IsHeldBy (xs ++ x ∷ []) n → IsHeldBy xs n ⊎ Holds x n
held_cases xs x n h = elim (push_cases xs x h.position h.interval h.there) [
  | inl old ↦ inl (record { position = h.position; interval = h.interval; there = old; holds = h.holds })
  | inr new ↦ inr (subst (λ (z : Interval). Holds z n) (sym new.1) h.holds)
]

-- below an end that is there
pub below_some : (n to : ℕ) (end : Option ℕ) → end ≡ Some to → n < to → IsBelowEnd n end
below_some n to end is less = subst (λ (z : Option ℕ). IsBelowEnd n z) (sym is) less

-- and back
pub some_above : (n to : ℕ) (end : Option ℕ) → end ≡ Some to → IsBelowEnd n end → n < to
some_above n to end is below = subst (λ (z : Option ℕ). IsBelowEnd n z) is below

-- the walk goes on at the same end, or at one more where an interval ends
pub low_more : (xs : List Interval) (x : Interval) (from end old new : ℕ) → IsLowEnd xs from end old
    → old ≤ new → new < end → (new ≡ old) ⊎ Holds x (new - 1)
    → ((n : ℕ) → new ≤ n → n < end → Holds x n → ⊥) → IsLowEnd (xs ++ x ∷ []) from end new
low_more xs x from end old new h up falls met clear = record {
  within = omega (arith, h.within);
  falls = falls;
  clear = λ n least most held. elim (held_cases xs x n held) [
    | inl before ↦ h.clear n (omega arith) most before
    | inr here ↦ clear n least most here
  ];
  met = elim met [
    | inr here ↦ inr (held_last xs x (new - 1) here)
    | inl same ↦ elim h.met [
      | inl begins ↦ inl (same ∙ begins)
      | inr before ↦ inr (held_longer xs x (new - 1) (subst (λ (k : ℕ). IsHeldBy xs (k - 1)) (sym same) before))
    ]
  ];
}

-- an interval that doesn't reach the end and ends nowhere above the old one changes nothing
pub low_kept : (xs : List Interval) (x : Interval) (from end old : ℕ) → ¬ Holds x (end - 1)
    → ((to : ℕ) → x.to ≡ Some to → x.from < to → to < end → to ≤ old) → IsLowEnd xs from end old
    → IsLowEnd (xs ++ x ∷ []) from end old
low_kept xs x from end old short no_more h =
    low_more xs x from end old old h (omega arith) h.falls (inl (λ i. old)) (none x.to (λ i. x.to))
  where
    none : (o : Option ℕ) → x.to ≡ o → (n : ℕ) → old ≤ n → n < end → Holds x n → ⊥
    none None is n least most held = short (record {
      begun = omega (arith, held.begun);
      open_still = subst (λ (z : Option ℕ). IsBelowEnd (end - 1) z) (sym is) tt;
    })
    none (Some to) is n least most held =
        let above : n < to = some_above n to x.to is held.open_still in
        let begun : x.from ≤ n = held.begun in
        elim (dec_lt to end) [
          | yes less ↦ (let upto : to ≤ old = no_more to is (omega arith) less in omega arith)
          | no not_less ↦ short (record {
            begun = omega arith;
            open_still = below_some (end - 1) to x.to is (omega arith);
          })
        ]

-- the walk over a list of which no interval reaches the end, one turn further
pub low_turn : (xs : List Interval) (i : ℕ) (d : Interval) (from end old new : ℕ) → i < length xs → ¬ IsHeldBy xs (end - 1)
    → KeepsLowEnd end old (get_or xs i d) new → IsLowEnd (take i xs) from end old → IsLowEnd (take (i + 1) xs) from end new
low_turn xs i d from end old new inside free keeps h =
    subst (λ (ys : List Interval). IsLowEnd ys from end new) (sym (take_more xs i d inside))
    (keeps (take i xs) from (λ holds. free (record {
      position = i;
      interval = get_or xs i d;
      there = slice_get-get_or xs i d inside;
      holds = holds;
    })) h)
