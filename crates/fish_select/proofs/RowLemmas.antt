-- The payloads of rows are rows.
use Rattle.std.proofs.Common.{◌≡◌, ℕ, List, [], ◌∷◌, Option, Bool, true, false, map, refl, subst, ap, ◌∙◌}
use Rattle.std.specs.Prelude.{Some, None, IsSome, is_some, if◌then◌else◌}
use Rattle.fish_csv.specs.Left.{rows_left}
use Rattle.fish_csv.specs.Reading.{row_of, rows_in}
use Rattle.fish_csv.specs.Rows.{payload_of_row, stored_text}
use Rattle.fish_csv.specs.declared.file.RowTexts.{RowTexts}
use Rattle.fish_lang.specs.Definition.{Definition}
use Rattle.fish_psf.specs.Eval.{Fields, values}
use Rattle.fish_psf.specs.Records.{column_fields}
use Rattle.fish_psf.specs.Select.{has_value}
use Rattle.fish_psf.proofs.RecordLemmas.{csv_fields}
use Rattle.fish_value.specs.declared.field.Form.TheVariants.{Csv}
use Rattle.fish_value.specs.declared.value.Value.{Value}
use Rattle.fish_select.specs.within.Selection.{is_selected}

-- a text that was kept passed the test
chosen : (test : Bool) (stored text : List ℕ) → (if test then Some stored else None) ≡ Some text
    → (test ≡ true) × (stored ≡ text)
chosen true stored text h = (refl, cc)
chosen false stored text h = absurd cc

-- so it is a row
payload_is_row : (fields : List (List ℕ)) (text : List ℕ) → payload_of_row fields ≡ Some text → IsSome (row_of text)
unfolding payload_of_row
payload_is_row fields text h =
    let both = chosen (is_some (row_of (stored_text fields))) (stored_text fields) text h in
    subst (λ (t : List ℕ). is_some (row_of t) ≡ true) both.1 both.0

first_payload : (rows : List (List (List ℕ))) (text : List ℕ) (more : List (Option (List ℕ)))
    → map payload_of_row rows ≡ Some text ∷ more → IsSome (row_of text)
first_payload [] text more h = absurd cc
first_payload (fields ∷ rows) text more h =
    payload_is_row fields text (first (payload_of_row fields) (map payload_of_row rows) h)
  where
    first : (o : Option (List ℕ)) (os : List (Option (List ℕ))) → o ∷ os ≡ Some text ∷ more → o ≡ Some text
    first o os e = cc

-- the next payload of a file is a row
pub next_is_row : (texts : RowTexts) (text : List ℕ) (more : List (Option (List ℕ))) → rows_left texts ≡ Some text ∷ more
    → IsSome (row_of text)
unfolding rows_left
next_is_row texts text more h = first_payload (rows_in texts.rest.now) text more h

-- what was found in a row that was read is what its payload has
pub row_counts : (def : Definition) (v : Value) (text : List ℕ) (fields : List (List ℕ)) (has : Bool)
    → row_of text ≡ Some fields → has ≡ has_value (values def (column_fields fields)) v
    → has ≡ is_selected def v Csv text
row_counts def v text fields has h same =
    same ∙ ap (λ (found : Fields). has_value (values def found) v) (csv_fields text fields h)
