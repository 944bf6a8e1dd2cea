-- What the lines or rows gave one by one is the selection of the file.
use Rattle.std.proofs.Common.{◌≡◌, ℕ, ◌+◌, ◌<◌, ◌≤◌, List, [], ◌∷◌, ◌++◌, length, refl, sym, ap, subst, arith}
use Rattle.std.proofs.Common.{◌∙◌, append_assoc, append-nil}
use Rattle.std.specs.Prelude.{Bool, true, false, nat_le, nat_lt, Option, Some, None, reverse, if◌then◌else◌}
use Rattle.std.specs.List.{cons_option, enumerate_from, filter_map}
use Rattle.std.proofs.lemmas.Bool.Decides.{nat_tests}
use Rattle.std.proofs.lemmas.Grind.{common_steps}
use Rattle.std.proofs.lemmas.List.{length-append, reverse-reverse}
use Rattle.std.proofs.lemmas.List.Elements.{filter_map-append}
use Rattle.fish_lang.specs.Definition.{Definition}
use Rattle.fish_value.specs.Outcomes.{accepted, refused}
use Rattle.fish_psf.specs.Records.{evaluation}
use Rattle.fish_psf.specs.Select.{selected_row, select, stored}
use Rattle.fish_report.specs.declared.item.Item.TheVariants as item
use Rattle.fish_value.specs.declared.field.Form.{Form}
use Rattle.fish_value.specs.declared.row.Row.{Row}
use Rattle.fish_value.specs.declared.value.Value.{Value}
use Rattle.fish_select.specs.Selection.{HasFoundRows, log_of, selection_rows, selection_of}
use Rattle.fish_select.specs.within.Selection.{is_selected}
use Rattle.fish_select.specs.within.Found.{kept_if, nothing, rows_with, with_outcome, with_outcomes}
use Rattle.fish_select.specs.declared.found.Found.{Found}

-- the row of a payload and its number, where the payload passes a test
abbrev row_at : (List ℕ → Bool) → ℕ × List ℕ → Option Row
row_at test e = if test e.1 then Some (record { number = e.0; payload = e.1 }) else None

-- u is t with these outcomes on it
record Adds (test : List ℕ → Bool) (t u : Found) (os : List (Option (List ℕ))) : Type 0 where
  rows : u.rows ≡ t.rows ++ filter_map (row_at test) (enumerate_from t.count (accepted os))
  count : u.count ≡ t.count + length (accepted os)
  none : u.refused ≡ t.refused + refused os

Adds-nil : (test : List ℕ → Bool) (t : Found) → Adds test t t []
Adds-nil test t = record { rows = sym (append-nil t.rows); count = omega arith; none = omega arith }

-- one more refused line or row counts one
refused-none : (os : List (Option (List ℕ))) → refused (None ∷ os) ≡ refused os + 1
refused-none os = grind (arith, common_steps)

refused-some : (payload : List ℕ) (os : List (Option (List ℕ))) → refused (Some payload ∷ os) ≡ refused os
refused-some payload os = grind (arith, common_steps)

Adds-none : (test : List ℕ → Bool) (t u : Found) (os : List (Option (List ℕ)))
    → Adds test (with_outcome test t None) u os → Adds test t u (None ∷ os)
Adds-none test t u os h = record { rows = h.rows; count = h.count; none = omega (arith, h.none, refused-none os) }

-- rows with one more before the others
rows_with-then : (test : List ℕ → Bool) (n : ℕ) (payload : List ℕ) (rows : List Row)
    → rows_with n (kept_if (test payload) payload) ++ rows ≡ cons_option (row_at test (n, payload)) rows
rows_with-then test n payload rows =
    elim (test payload) as
    (λ has. rows_with n (kept_if has payload) ++ rows
    ≡ cons_option (if has then Some (record { number = n; payload = payload }) else None) rows) [
      | true ↦ refl
      | false ↦ refl
    ]

Adds-some : (test : List ℕ → Bool) (t u : Found) (payload : List ℕ) (os : List (Option (List ℕ)))
    → Adds test (with_outcome test t (Some payload)) u os → Adds test t u (Some payload ∷ os)
Adds-some test t u payload os h = record {
  rows = h.rows ∙ append_assoc t.rows _ _ ∙ ap (λ r. t.rows ++ r) (rows_with-then test t.count payload _);
  count = omega (arith, h.count);
  none = h.none ∙ ap (λ n. t.refused + n) (sym (refused-some payload os));
}

Adds-outcome : (test : List ℕ → Bool) (t u : Found) (o : Option (List ℕ)) (os : List (Option (List ℕ)))
    → Adds test (with_outcome test t o) u os → Adds test t u (o ∷ os)
Adds-outcome test t u None os h = Adds-none test t u os h
Adds-outcome test t u (Some payload) os h = Adds-some test t u payload os h

Adds-outcomes : (test : List ℕ → Bool) (t : Found) (os : List (Option (List ℕ)))
    → Adds test t (with_outcomes test t os) os
Adds-outcomes test t [] = Adds-nil test t
Adds-outcomes test t (o ∷ os) =
    let next = with_outcome test t o in
    Adds-outcome test t (with_outcomes test next os) o os (Adds-outcomes test next os)

-- ---- the selection of the payloads as a log

selected_row-at : (def : Definition) (v : Value) (form : Form) (n end : ℕ) (payload : List ℕ) → n < end
    → selected_row (evaluation def) v 0 end [] (n, stored 1 form payload) ≡ row_at (is_selected def v form) (n, payload)
selected_row-at def v form n end payload below =
    (let low : nat_le 0 n ≡ true = grind (arith, nat_tests) in
    let high : nat_lt n end ≡ true = grind (arith, nat_tests) in rw (low, high))

selection_rows-log : (def : Definition) (v : Value) (form : Form) (n end : ℕ) (payloads : List (List ℕ))
    → n + length payloads ≤ end
    → filter_map (selected_row (evaluation def) v 0 end []) (enumerate_from n (log_of form payloads))
    ≡ filter_map (row_at (is_selected def v form)) (enumerate_from n payloads)
selection_rows-log def v form n end [] within = refl
selection_rows-log def v form n end (payload ∷ payloads) within =
    rw (selected_row-at def v form n end payload (omega arith), selection_rows-log def v form (n + 1) end payloads (omega arith))

selection_rows-is : (def : Definition) (v : Value) (form : Form) (payloads : List (List ℕ))
    → reverse (filter_map (row_at (is_selected def v form)) (enumerate_from 0 payloads)) ≡ selection_rows def v form payloads
unfolding selection_rows select
selection_rows-is def v form payloads = sym (ap reverse (selection_rows-log def v form 0 (length payloads) payloads (omega arith)))

-- ---- what was found

refused_append : (os more : List (Option (List ℕ))) → refused (os ++ more) ≡ refused os + refused more
refused_append [] more = omega arith
refused_append (None ∷ os) more =
    omega (refused-none (os ++ more), refused-none os, refused_append os more, arith)
refused_append (Some payload ∷ os) more =
    omega (refused-some payload (os ++ more), refused-some payload os, refused_append os more, arith)

enumerate_append : {A : Type 0} (n : ℕ) (xs ys : List A)
    → enumerate_from n (xs ++ ys) ≡ enumerate_from n xs ++ enumerate_from (n + length xs) ys
enumerate_append n [] ys = ap (λ (k : ℕ). enumerate_from k ys) (omega arith)
enumerate_append {A = A} n (x ∷ xs) ys =
    ap (λ (zs : List (ℕ × A)). (n, x) ∷ zs)
    (enumerate_append (n + 1) xs ys
    ∙ ap (λ (k : ℕ). enumerate_from (n + 1) xs ++ enumerate_from k ys) (omega arith))

module _ (def : Definition) (v : Value) (form : Form) where
  abbrev test : List ℕ → Bool
  test = is_selected def v form

  abbrev found_in : ℕ → List (List ℕ) → List Row
  found_in n payloads = filter_map (row_at test) (enumerate_from n payloads)

  found_append : (xs ys : List (List ℕ)) → found_in 0 (xs ++ ys) ≡ found_in 0 xs ++ found_in (length xs) ys
  found_append xs ys =
      ap (filter_map (row_at test))
      (enumerate_append 0 xs ys ∙ ap (λ (k : ℕ). enumerate_from 0 xs ++ enumerate_from k ys) (omega arith))
      ∙ filter_map-append (row_at test) (enumerate_from 0 xs) (enumerate_from (length xs) ys)

  -- the rows in the order in which they were found
  rows_found : (os : List (Option (List ℕ))) (t : Found) → HasFoundRows def v form os t → t.rows ≡ found_in 0 (accepted os)
  rows_found os t h = sym (reverse-reverse t.rows)
      ∙ ap reverse (h.rows ∙ sym (selection_rows-is def v form (accepted os)))
      ∙ reverse-reverse (found_in 0 (accepted os))

  -- nothing was found in nothing
  pub found_nothing : HasFoundRows def v form [] nothing
  found_nothing = record { rows = selection_rows-is def v form []; count = refl; refused = refl }

  -- what more lines or rows add
  pub found_more : (os more : List (Option (List ℕ))) (t u : Found) → HasFoundRows def v form os t
      → u ≡ with_outcomes (is_selected def v form) t more → HasFoundRows def v form (os ++ more) u
  found_more os more t u h is = record {
    rows = ap reverse (all.rows
        ∙ (λ i. rows_found os t h i ++ filter_map (row_at test) (enumerate_from (h.count i) (accepted more)))
        ∙ sym (found_append (accepted os) (accepted more)) ∙ ap (found_in 0) (sym both))
        ∙ selection_rows-is def v form (accepted (os ++ more));
    count = omega (all.count, h.count, ap length both, length-append (accepted os) (accepted more), arith);
    refused = omega (all.none, h.refused, refused_append os more, arith);
  }
    where
      all : Adds test t u more
      all = subst (λ (z : Found). Adds test t z more) (sym is) (Adds-outcomes test t more)

      both : accepted (os ++ more) ≡ accepted os ++ accepted more
      both = filter_map-append (λ o. o) os more

  -- what was found in all lines or rows is the selection of the file
  pub found_all : (os : List (Option (List ℕ))) (t : Found) → HasFoundRows def v form os t
      → item.Select (reverse t.rows) t.count t.refused ≡ selection_of def v form os
  unfolding selection_of
  found_all os t h = (λ i. item.Select (h.rows i) (h.count i) (h.refused i))
