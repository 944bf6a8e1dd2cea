-- A payload that was read is a record of its form, with the fields that were read.
use Rattle.std.proofs.Common.{◌≡◌, ℕ, ◌<◌, List, length, true, false, ap, sym, refl, arith}
use Rattle.std.specs.Prelude.{[], Some, None, is_some, nat_le}
use Rattle.std.proofs.lemmas.Bool.Decides.{nat_tests}
use Rattle.serde_json.specs.Data.{Data}
use Rattle.fish_value.specs.declared.field.Form.TheVariants.{Json, Csv}
use Rattle.fish_json.specs.Reading.{record_of}
use Rattle.fish_value.specs.Limits.{longest_payload}
use Rattle.fish_json.proofs.Records.{items_of_record, field_of_record}
use Rattle.fish_csv.specs.Reading.{row_of}
use Rattle.fish_csv.proofs.Columns.{field_of_row}
use Rattle.fish_csv.proofs.Readings.{row_of_long}
use Rattle.fish_psf.specs.Records.{column_fields, fields_of_payload, is_record, object_fields}

-- a line whose object was read is a record with the object's fields
pub json_accepted : (b : List ℕ) (d : Data) → record_of b ≡ Some d → is_record Json b ≡ true
unfolding is_record
json_accepted b d h = ap is_some h

pub json_fields : (b : List ℕ) (d : Data) → record_of b ≡ Some d
    → object_fields d ≡ fields_of_payload Json b
unfolding fields_of_payload
json_fields b d h = λ i. record {
  at = λ path. sym (field_of_record b path d h) i;
  items = λ path. sym (items_of_record b path d h) i;
}

-- a line with no object is none
pub json_none : (b : List ℕ) → record_of b ≡ None → is_record Json b ≡ false
unfolding is_record
json_none b h = ap is_some h

pub json_long : (b : List ℕ) → longest_payload < length b → is_record Json b ≡ false
unfolding is_record record_of
json_long b h = (let long : nat_le (length b) longest_payload ≡ false = grind (arith, nat_tests) in rw long refl)

-- a row that was read is a record with the row's fields
pub csv_accepted : (b : List ℕ) (fields : List (List ℕ)) → row_of b ≡ Some fields → is_record Csv b ≡ true
unfolding is_record
csv_accepted b fields h = ap is_some h

pub csv_fields : (b : List ℕ) (fields : List (List ℕ)) → row_of b ≡ Some fields
    → column_fields fields ≡ fields_of_payload Csv b
unfolding fields_of_payload
csv_fields b fields h = λ i. record { at = λ path. sym (field_of_row b path fields h) i; items = λ path. [] }

-- bytes that are no row are none
pub csv_none : (b : List ℕ) → row_of b ≡ None → is_record Csv b ≡ false
unfolding is_record
csv_none b h = ap is_some h

pub csv_long : (b : List ℕ) → longest_payload < length b → is_record Csv b ≡ false
csv_long b h = csv_none b (row_of_long b h)

-- both forms, each with what was read and with what wasn't
pub ruleset json_records = (json_accepted, json_fields, json_none, json_long)

pub ruleset csv_records = (csv_accepted, csv_fields, csv_none, csv_long)
