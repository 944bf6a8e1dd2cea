-- The law of a selection: its rows are the matches, and their numbers fall.
use Rattle.std.proofs.Common.{◌≡◌, ℕ, ◌+◌, ◌<◌, ◌≤◌, List, [], ◌∷◌, length, refl, sym, ap, arith, inl, inr, ◌∙◌}
use Rattle.std.specs.Prelude.{Bool, true, false, not, ◌&&◌, ◌||◌, ◌==◌, ◌↔◌, nat_le, nat_lt, Option, Some, None}
use Rattle.std.specs.Prelude.{slice_get, Contains, if◌then◌else◌}
use Rattle.std.specs.List.{enumerate_from, filter_map, cons_option}
use Rattle.std.proofs.lemmas.Bool.Decides.{nat_tests}
use Rattle.std.proofs.lemmas.Option.{same_Some}
use mathlib.Core.List.{reverse_aux}
use Rattle.fish_value.proofs.SameLemmas.{same_value-Decides}
use Rattle.fish_value.specs.Same.{same_value}
use Rattle.fish_value.specs.declared.row.Row.{Row}
use Rattle.fish_value.specs.declared.value.Value.{Value}
use Rattle.fish_psf.specs.Select.{Entry, stored, void, unfinished, Evaluation, has_value, is_open, row_if, selected_row, select}
use Rattle.fish_psf.specs.SelectLaw.{IsMatch, FallsBelow, SelectsMatches}
use Rattle.fish_psf.proofs.HasLemmas.{Has, Has-from_Contains, Contains-from_Has, Has-reverse, reverse-Has, Made-from_Has, Has-from_Made}

-- what two tests say where both hold
both : (a b : Bool) → (a && b) ≡ true → (a ≡ true) × (b ≡ true)
both true b h = (refl, h)
both false b h = cc

-- a choice that gave something
chosen : {X : Type 0} (b : Bool) (o : Option X) (x : X) → (if b then o else None) ≡ Some x → (b ≡ true) × (o ≡ Some x)
chosen true o x h = (refl, h)
chosen false o x h = cc

-- ---- the tests

-- a value that the test finds is there
has_value-is : (vs : List Value) (v : Value) → has_value vs v ≡ true → Has vs v
has_value-is [] v h = cc
has_value-is (w ∷ vs) v h =
    elim (same_value w v) as (λ t. same_value w v ≡ t → (t || has_value vs v) ≡ true → Has (w ∷ vs) v) [
      | true ↦ λ e _. inl ((same_value-Decides w v).0 e)
      | false ↦ λ e i. inr (has_value-is vs v i)
    ] refl h

-- and one that is there it finds
has_value-has : (vs : List Value) (v : Value) → Has vs v → has_value vs v ≡ true
has_value-has [] v h = absurd h
has_value-has (w ∷ vs) v (inl e) = (let same : same_value w v ≡ true = (same_value-Decides w v).1 e in rw same refl)
has_value-has (w ∷ vs) v (inr h) =
    elim (same_value w v) as (λ t. (t || has_value vs v) ≡ true) [
      | true ↦ refl
      | false ↦ has_value-has vs v h
    ]

-- the test finds a value exactly where it is there
pub has_contains : (vs : List Value) (v : Value) → has_value vs v ≡ true ↔ Contains vs v
has_contains vs v = (
  λ h. Contains-from_Has vs v (has_value-is vs v h),
  λ c. has_value-has vs v (Has-from_Contains vs v c),
)

open_has : (opens : List ℕ) (n : ℕ) → is_open opens n ≡ true → Has opens n
open_has [] n h = cc
open_has (o ∷ opens) n h =
    elim (o == n) as (λ t. (o == n) ≡ t → is_open (o ∷ opens) n ≡ true → Has (o ∷ opens) n) [
      | true ↦ λ e _. inl (grind (arith, nat_tests))
      | false ↦ λ e i. inr (open_has opens n (rw e at i))
    ] refl h

has_open : (opens : List ℕ) (n : ℕ) → Has opens n → is_open opens n ≡ true
has_open [] n h = absurd h
has_open (o ∷ opens) n (inl e) = (let same : (o == n) ≡ true = grind (arith, nat_tests) in rw same)
has_open (o ∷ opens) n (inr h) =
    elim (o == n) as (λ t. (o == n) ≡ t → is_open (o ∷ opens) n ≡ true) [
      | true ↦ λ e. rw e
      | false ↦ λ e. rw e (has_open opens n h)
    ] refl

closed_when : (opens : List ℕ) (n : ℕ) → not (is_open opens n) ≡ true → ¬ Contains opens n
closed_when opens n h c =
    let i : is_open opens n ≡ true = has_open opens n (Has-from_Contains opens n c) in
    let off : not (is_open opens n) ≡ false = rw i refl in cc

not_open : (opens : List ℕ) (n : ℕ) → ¬ Contains opens n → not (is_open opens n) ≡ true
not_open opens n closed =
    elim (is_open opens n) as (λ t. is_open opens n ≡ t → not t ≡ true) [
      | true ↦ λ e. absurd (closed (Contains-from_Has opens n (open_has opens n e)))
      | false ↦ λ e. refl
    ] refl

-- ---- one entry

-- the entry has this payload, with the value
abbrev IsSelected : Entry → Evaluation → Value → List ℕ → Type 0
IsSelected e eval v payload = (lane : ℕ) × (form : _) × (e ≡ stored lane form payload) × Contains (eval form payload) v

row_if-some : (eval : Evaluation) (v : Value) (n : ℕ) (e : Entry) (row : Row) → row_if eval v n e ≡ Some row
    → (row.number ≡ n) × IsSelected e eval v row.payload
row_if-some eval v n (stored lane form payload) row h =
    let c = chosen (has_value (eval form payload) v) (Some (record { number = n; payload = payload })) row h in
    let is = same_Some (record { number = n; payload = payload }) row c.1 in
    let same : payload ≡ row.payload = ap (λ (r : Row). r.payload) is in (
      sym (ap (λ (r : Row). r.number) is),
      (lane, form, ap (stored lane form) same, rw (← same) (Contains-from_Has _ v (has_value-is (eval form payload) v c.0))),
    )
row_if-some eval v n void row h = cc
row_if-some eval v n unfinished row h = cc

row_if-at : (eval : Evaluation) (v : Value) (n lane : ℕ) (form : _) (payload : List ℕ)
    → Contains (eval form payload) v
    → row_if eval v n (stored lane form payload) ≡ Some (record { number = n; payload = payload })
row_if-at eval v n lane form payload h = rw (has_value-has (eval form payload) v (Has-from_Contains _ v h)) refl

module _ (eval : Evaluation) (v : Value) (from to : ℕ) (opens : List ℕ) where
  selected_row-some : (n : ℕ) (e : Entry) (row : Row) → selected_row eval v from to opens (n, e) ≡ Some row
      → (row.number ≡ n) × (from ≤ n) × (n < to) × (¬ Contains opens n) × IsSelected e eval v row.payload
  selected_row-some n e row h =
      let c = chosen (nat_le from n && nat_lt n to && not (is_open opens n)) (row_if eval v n e) row h in
      let t = both (nat_le from n && nat_lt n to) (not (is_open opens n)) c.0 in
      let r = both (nat_le from n) (nat_lt n to) t.0 in
      let s = row_if-some eval v n e row c.1 in
      (s.0, grind (arith, nat_tests, r.0), grind (arith, nat_tests, r.1), closed_when opens n t.1, s.1)

  selected_row-at : (row : Row) (e : Entry) → from ≤ row.number → row.number < to → ¬ Contains opens row.number
      → IsSelected e eval v row.payload → selected_row eval v from to opens (row.number, e) ≡ Some row
  selected_row-at row e above below closed (lane, form, is, gives) =
      let a : nat_le from row.number ≡ true = grind (arith, nat_tests) in
      let b : nat_lt row.number to ≡ true = grind (arith, nat_tests) in
      rw (a, b, not_open opens row.number closed, is) (row_if-at eval v row.number lane form row.payload gives)

  -- ---- the numbers

  numbers : (n : ℕ) (e : Entry) (row : Row) → selected_row eval v from to opens (n, e) ≡ Some row → row.number ≡ n
  numbers n e row h = (selected_row-some n e row h).0

-- the numbers rise strictly from row to row, and lie from low on and below end
abbrev Rises : ℕ → ℕ → List Row → Type 0
Rises low end [] = low ≤ end
Rises low end (row ∷ rows) = (low ≤ row.number) × Rises (row.number + 1) end rows

Rises-lower : (low less end : ℕ) (rows : List Row) → less ≤ low → Rises low end rows → Rises less end rows
Rises-lower low less end [] h r = omega arith
Rises-lower low less end (row ∷ rows) h r = (omega (arith, r.0), r.1)

Rises-cons_option : (low end : ℕ) (o : Option Row) (rows : List Row)
    → ((row : Row) → o ≡ Some row → row.number ≡ low) → Rises (low + 1) end rows → Rises low end (cons_option o rows)
Rises-cons_option low end None rows at r = Rises-lower (low + 1) low end rows (omega arith) r
Rises-cons_option low end (Some row) rows at r = (let is = at row refl in (omega arith, rw is r))

Rises-filter_map : (h : ℕ × Entry → Option Row)
    → ((n : ℕ) (e : Entry) (row : Row) → h (n, e) ≡ Some row → row.number ≡ n)
    → (n end : ℕ) (log : List Entry) → n + length log ≡ end → Rises n end (filter_map h (enumerate_from n log))
Rises-filter_map h at n end [] is = omega arith
Rises-filter_map h at n end (e ∷ log) is =
    Rises-cons_option n end (h (n, e)) (filter_map h (enumerate_from (n + 1) log)) (at n e)
    (Rises-filter_map h at (n + 1) end log (omega arith))

-- rising rows turned round fall
FallsBelow-reverse_aux : (low end : ℕ) (rows acc : List Row) → Rises low end rows → FallsBelow low acc
    → FallsBelow end (reverse_aux rows acc)
FallsBelow-reverse_aux low end [] [] r f = tt
FallsBelow-reverse_aux low end [] (row ∷ acc) r f = (omega (arith, f.0), f.1)
FallsBelow-reverse_aux low end (row ∷ rows) [] r f =
    FallsBelow-reverse_aux (row.number + 1) end rows (row ∷ []) r.1 (omega arith, tt)
FallsBelow-reverse_aux low end (row ∷ rows) (last ∷ acc) r f =
    FallsBelow-reverse_aux (row.number + 1) end rows (row ∷ last ∷ acc) r.1
    (omega arith, (omega (arith, r.0, f.0), f.1))

-- ---- the law

module _ (log : List Entry) (eval : Evaluation) (v : Value) (from to : ℕ) (opens : List ℕ) where
  -- a row made of the entry at its number is a match
  match_made : (row : Row) (k : ℕ) (e : Entry) → slice_get log k ≡ Some e → row.number ≡ k → from ≤ k → k < to
      → ¬ Contains opens k → IsSelected e eval v row.payload → IsMatch log eval v from to opens row
  match_made row k e at is above below closed (lane, form, stands, gives) = record {
    above = omega arith;
    below = omega arith;
    closed = rw is closed;
    selected = (lane, form, rw is (at ∙ ap Some stands), gives);
  }

  is_match : (row : Row) → Contains (select log eval v from to opens) row → IsMatch log eval v from to opens row
  unfolding select
  is_match row c =
      let h = selected_row eval v from to opens in
      let made = Made-from_Has h 0 log row
      (Has-reverse (filter_map h (enumerate_from 0 log)) row (Has-from_Contains _ row c)) in
      let here : 0 + made.0 ≡ made.0 = omega arith in
      let parts = selected_row-some eval v from to opens made.0 made.1 row (rw here at made.3) in
      match_made row made.0 made.1 made.2 parts.0 parts.1 parts.2 parts.3 parts.4

  in_selection : (row : Row) → IsMatch log eval v from to opens row → Contains (select log eval v from to opens) row
  unfolding select
  in_selection row m =
      let h = selected_row eval v from to opens in
      let s = m.selected in
      let here : 0 + row.number ≡ row.number = omega arith in
      let e = stored s.0 s.1 row.payload in
      let gives = selected_row-at eval v from to opens row e m.above m.below m.closed (s.0, s.1, refl, s.3) in
      Contains-from_Has _ row (reverse-Has (filter_map h (enumerate_from 0 log)) row
      (Has-from_Made h 0 log row (row.number, e, s.2, rw here gives)))

  falls : FallsBelow (length log) (select log eval v from to opens)
  unfolding select
  falls =
      let h = selected_row eval v from to opens in
      FallsBelow-reverse_aux 0 (length log) (filter_map h (enumerate_from 0 log)) []
      (Rises-filter_map h (numbers eval v from to opens) 0 (length log) log (omega arith)) tt

pub selects : SelectsMatches
selects log eval v from to opens = (
  λ row. (is_match log eval v from to opens row, in_selection log eval v from to opens row),
  falls log eval v from to opens,
)
