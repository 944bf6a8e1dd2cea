-- Lanes that are given out and taken in, the records that go with them, and one more view after the others.
use Rattle.std.proofs.Common.{◌≡◌, ◌≢◌, ℕ, ◌≤◌, zero, suc, List, [], ◌∷◌, ◌++◌, length, sym, refl, ap, ◌∙◌, subst, inl}
use Rattle.std.proofs.Common.{inr, ◌⊎◌, ⊎_elim, arith, Some, None, Option}
use Rattle.fish_rule.proofs.basics.Context.{Among, Flight, Key, View, get_elem?, some}
use mathlib.Core.Option.{some-injective, some-ne-none}
use Rattle.std.proofs.Math.Decide.{ℕ_discrete}
use Rattle.atomic_table.proofs.Lists.{at_longer}
use Rattle.fish_layout.specs.Cleared.{choose}
use Rattle.fish_rule.specs.Facts.{ShutOk}
use Rattle.fish_rule.specs.SeatSteps.{first_shut, of_lane, off_lane, without}
use Rattle.fish_rule.specs.Views.{Has, HasFlight, IsOver}
use Rattle.fish_rule.specs.declared.view.Own.{Own}
use Rattle.fish_rule.specs.declared.view.Shut.{Shut}

-- ---- the records of one lane, and the others

-- a record of those of lane l is one of all, and of lane l
pub of_lane_sound : (l : ℕ) (o : Own) (own : List Own) → Among o (of_lane l own) → Among o own × (o.lane ≡ l)
of_lane_sound l o [] m = elim m [ ]
of_lane_sound l o (x ∷ own) m = by (ℕ_discrete x.lane l) m (of_lane_sound l o own)
  where
    by : (d : Dec (x.lane ≡ l)) → Among o (choose d (x ∷ of_lane l own) (of_lane l own))
        → (Among o (of_lane l own) → Among o own × (o.lane ≡ l)) → Among o (x ∷ own) × (o.lane ≡ l)
    by (yes e) (inl is) others = (inl is, ap (λ (z : Own). z.lane) (sym is) ∙ e)
    by (yes e) (inr m) others = let h = others m in (inr h.0, h.1)
    by (no ne) m others = let h = others m in (inr h.0, h.1)

-- and each of lane l is there
pub of_lane_complete : (l : ℕ) (o : Own) (own : List Own) → Among o own → o.lane ≡ l → Among o (of_lane l own)
of_lane_complete l o [] m e = elim m [ ]
of_lane_complete l o (x ∷ own) m e = by (ℕ_discrete x.lane l) m (λ m. of_lane_complete l o own m e)
  where
    by : (d : Dec (x.lane ≡ l)) → Among o (x ∷ own) → (Among o own → Among o (of_lane l own))
        → Among o (choose d (x ∷ of_lane l own) (of_lane l own))
    by (yes d) (inl is) others = inl is
    by (yes d) (inr m) others = inr (others m)
    by (no ne) (inl is) others = absurd (ne (ap (λ (z : Own). z.lane) is ∙ e))
    by (no ne) (inr m) others = others m

-- a record of those off lane l is one of all, and of another lane
pub off_lane_sound : (l : ℕ) (o : Own) (own : List Own) → Among o (off_lane l own) → Among o own × (o.lane ≢ l)
off_lane_sound l o [] m = elim m [ ]
off_lane_sound l o (x ∷ own) m = by (ℕ_discrete x.lane l) m (off_lane_sound l o own)
  where
    by : (d : Dec (x.lane ≡ l)) → Among o (choose d (off_lane l own) (x ∷ off_lane l own))
        → (Among o (off_lane l own) → Among o own × (o.lane ≢ l)) → Among o (x ∷ own) × (o.lane ≢ l)
    by (yes e) m others = let h = others m in (inr h.0, h.1)
    by (no ne) (inl is) others = (inl is, λ e. ne (ap (λ (z : Own). z.lane) is ∙ e))
    by (no ne) (inr m) others = let h = others m in (inr h.0, h.1)

-- and each of another lane is there
pub off_lane_complete : (l : ℕ) (o : Own) (own : List Own) → Among o own → o.lane ≢ l → Among o (off_lane l own)
off_lane_complete l o [] m away = elim m [ ]
off_lane_complete l o (x ∷ own) m away = by (ℕ_discrete x.lane l) m (λ m. off_lane_complete l o own m away)
  where
    by : (d : Dec (x.lane ≡ l)) → Among o (x ∷ own) → (Among o own → Among o (off_lane l own))
        → Among o (choose d (off_lane l own) (x ∷ off_lane l own))
    by (yes e) (inl is) others = absurd (away (ap (λ (z : Own). z.lane) (sym is) ∙ e))
    by (yes e) (inr m) others = others m
    by (no ne) (inl is) others = inl is
    by (no ne) (inr m) others = inr (others m)

-- a lane of those without l is one of all, and not l
pub without_sound : (l x : ℕ) (out : List ℕ) → Among x (without l out) → Among x out × (x ≢ l)
without_sound l x [] m = elim m [ ]
without_sound l x (y ∷ out) m = by (ℕ_discrete y l) m (without_sound l x out)
  where
    by : (d : Dec (y ≡ l)) → Among x (choose d (without l out) (y ∷ without l out))
        → (Among x (without l out) → Among x out × (x ≢ l)) → Among x (y ∷ out) × (x ≢ l)
    by (yes e) m others = let h = others m in (inr h.0, h.1)
    by (no ne) (inl is) others = (inl is, λ e. ne (is ∙ e))
    by (no ne) (inr m) others = let h = others m in (inr h.0, h.1)

-- and each but l is there
pub without_complete : (l x : ℕ) (out : List ℕ) → Among x out → x ≢ l → Among x (without l out)
without_complete l x [] m away = elim m [ ]
without_complete l x (y ∷ out) m away = by (ℕ_discrete y l) m (λ m. without_complete l x out m away)
  where
    by : (d : Dec (y ≡ l)) → Among x (y ∷ out) → (Among x out → Among x (without l out))
        → Among x (choose d (without l out) (y ∷ without l out))
    by (yes e) (inl is) others = absurd (away (sym is ∙ e))
    by (yes e) (inr m) others = others m
    by (no ne) (inl is) others = inl is
    by (no ne) (inr m) others = inr (others m)

-- ---- who has a lane

-- a live pass of lane l has it
pub has_lane : (l : ℕ) (out : List ℕ) → 2 ≤ l → l ≤ 16 → Has l out l
has_lane l out above below = (omega arith, below, inl refl)

-- a pass of a lane from 2 on has no other
pub has_one : (lane : ℕ) (out : List ℕ) (x : ℕ) → 2 ≤ lane → Has lane out x → x ≡ lane
has_one lane out x above has =
    ⊎_elim (λ (e : lane ≡ x). sym e) (λ (t : (lane ≡ 1) × ¬ Among x out). let e = t.0 in absurd (omega arith)) has.2

-- a spent pass has none
pub has_none : (x : ℕ) → ¬ Has 0 [] x
has_none x has =
    let h = has.0 in
    ⊎_elim (λ (e : 0 ≡ x). omega arith) (λ (t : (0 ≡ 1) × ¬ Among x []). let e = t.0 in omega arith) has.2

-- once lane l is out, the control pass has what it had but for l
pub left_has : (lane l : ℕ) (out : List ℕ) (x : ℕ) → lane ≡ 1 → 2 ≤ l → Has lane (l ∷ out) x → Has lane out x × (x ≢ l)
left_has lane l out x control above has = by has.2
  where
    by : (lane ≡ x) ⊎ ((lane ≡ 1) × ¬ Among x (l ∷ out)) → Has lane out x × (x ≢ l)
    by (inl e) = ((has.0, has.1, inl e), λ d. omega arith)
    by (inr t) = ((has.0, has.1, inr (t.0, λ m. t.1 (inr m))), λ d. t.1 (inl (sym d)))

-- all of that it has
pub has_left : (lane l : ℕ) (out : List ℕ) (x : ℕ) → Has lane out x → x ≢ l → Has lane (l ∷ out) x
has_left lane l out x has away = by has.2
  where
    by : (lane ≡ x) ⊎ ((lane ≡ 1) × ¬ Among x out) → Has lane (l ∷ out) x
    by (inl e) = (has.0, has.1, inl e)
    by (inr t) = (has.0, has.1, inr (t.0, λ m. ⊎_elim (λ (e : l ≡ x). away (sym e)) (λ (m : Among x out). t.1 m) m))

-- once lane l is back, the control pass has what it had, and l
pub both_has : (lane l : ℕ) (out : List ℕ) (x : ℕ) → Has lane (without l out) x → Has lane out x ⊎ (x ≡ l)
both_has lane l out x has = by (ℕ_discrete x l) has.2
  where
    by : Dec (x ≡ l) → (lane ≡ x) ⊎ ((lane ≡ 1) × ¬ Among x (without l out)) → Has lane out x ⊎ (x ≡ l)
    by (yes e) h = inr e
    by (no ne) (inl e) = inl (has.0, has.1, inl e)
    by (no ne) (inr t) = inl (has.0, has.1, inr (t.0, λ m. t.1 (without_complete l x out m ne)))

-- all of that it has
pub has_both : (lane l : ℕ) (out : List ℕ) (x : ℕ) → Has lane out x → Has lane (without l out) x
has_both lane l out x has = by has.2
  where
    by : (lane ≡ x) ⊎ ((lane ≡ 1) × ¬ Among x out) → Has lane (without l out) x
    by (inl e) = (has.0, has.1, inl e)
    by (inr t) = (has.0, has.1, inr (t.0, λ m. t.1 (without_sound l x out m).0))

-- l too
pub has_back : (lane l : ℕ) (out : List ℕ) → lane ≡ 1 → 2 ≤ l → l ≤ 16 → Has lane (without l out) l
has_back lane l out control above below = (omega arith, below, inr (control, λ m. (without_sound l l out m).1 refl))

-- ---- what two passes knew

-- a pass that joined another isn't shut only where neither was
pub first_shut_none : (a b : Option Shut) → first_shut a b ≡ None → (a ≡ None) × (b ≡ None)
first_shut_none None b e = (refl, e)
first_shut_none (Some s) b e = cc

-- the claim that shut either pass is a mark
pub shut_either : (k : Key) (count : ℕ) (dir start : ℕ → ℕ) (a b : Option Shut) → ShutOk k count dir start a
    → ShutOk k count dir start b
    → ShutOk k count dir start (first_shut a b)
shut_either k count dir start None b p q = q
shut_either k count dir start (Some s) b p q = p

-- ---- one more view after the others

-- at each place stands one of the others, or at the last the new one
snoc_cases : (vs : List View) (u a : View) (j : ℕ) → get_elem? (vs ++ u ∷ []) j ≡ some a
    → (get_elem? vs j ≡ some a) ⊎ ((j ≡ length vs) × (u ≡ a))
snoc_cases [] u a zero at = inr (refl, some-injective u a at)
snoc_cases [] u a (suc j) at = absurd (some-ne-none a (sym at))
snoc_cases (v ∷ vs) u a zero at = inl at
snoc_cases (v ∷ vs) u a (suc j) at =
    ⊎_elim (λ (t : get_elem? vs j ≡ some a). inl t) (λ (t : (j ≡ length vs) × (u ≡ a)). inr (ap suc t.0, t.1))
    (snoc_cases vs u a j at)

-- where P holds at one place of the others at most, and at none if it holds of the new view, it
-- holds at one place of all
pub pairs_snoc : (P : View → Type 0) (vs : List View) (u : View)
    → ((j : ℕ) (a : View) → get_elem? vs j ≡ some a → P a → ¬ P u)
    → ((i j : ℕ) (a b : View) → get_elem? vs i ≡ some a → get_elem? vs j ≡ some b → P a → P b → i ≡ j)
    → (i j : ℕ) (a b : View) → get_elem? (vs ++ u ∷ []) i ≡ some a → get_elem? (vs ++ u ∷ []) j ≡ some b → P a
    → P b → i ≡ j
pairs_snoc P vs u none apart i j a b at_i at_j p q = by (snoc_cases vs u a i at_i) (snoc_cases vs u b j at_j)
  where
    by : (get_elem? vs i ≡ some a) ⊎ ((i ≡ length vs) × (u ≡ a))
        → (get_elem? vs j ≡ some b) ⊎ ((j ≡ length vs) × (u ≡ b)) → i ≡ j
    by (inl s) (inl t) = apart i j a b s t p q
    by (inl s) (inr t) = absurd (none i a s p (subst P (sym t.1) q))
    by (inr s) (inl t) = absurd (none j b t q (subst P (sym s.1) p))
    by (inr s) (inr t) = s.0 ∙ sym t.0

-- a number stays in flight
pub flight_longer : (vs : List View) (u : View) (n : ℕ) → HasFlight n vs → HasFlight n (vs ++ u ∷ [])
flight_longer vs u n h = record {
  seat = h.seat;
  view = h.view;
  at = at_longer vs (u ∷ []) h.seat h.view h.at;
  flies = h.flies;
}

-- nothing in flight ends past the log's end
pub not_over : (end : ℕ) (flight : Option Flight) → flight ≡ None → ¬ IsOver end flight
not_over end flight idle h = subst (IsOver end) idle h
