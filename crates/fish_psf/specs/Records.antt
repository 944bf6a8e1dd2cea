-- Which payloads are records of a form, what such a payload has at each path, and what a definition gives for it.
use Rattle.std.specs.Prelude.{ℕ, List, [], Contains, Bool, is_some}
use Rattle.fish_value.specs.declared.field.Form.{Form}
use Rattle.fish_value.specs.declared.field.Form.TheVariants.{Json, Csv}
use Rattle.fish_value.specs.declared.value.Value.{Value}
use Rattle.serde_json.specs.Data.{Data}
use Rattle.fish_json.specs.Reading.{record_of, json_field, json_field_in, items as json_items}
use Rattle.fish_json.specs.Reading.{items_in as json_items_in}
use Rattle.fish_csv.specs.Reading.{row_of, csv_field, csv_field_in}
use Rattle.fish_lang.specs.Definition.{Definition}
use Rattle.fish_psf.specs.Eval.{Fields, values}
use Rattle.fish_psf.specs.Select.{Evaluation}

-- a payload is a record of its form: an object in JSON, or one row in CSV, of at most 524,288 bytes
unfoldable pub is_record : Form → List ℕ → Bool
is_record Json b = is_some (record_of b)
is_record Csv b = is_some (row_of b)

-- what an object in JSON has
abbrev pub object_fields : Data → Fields
object_fields d = record { at = λ path. json_field_in path d; items = λ path. json_items_in path d }

-- what the columns of a row in CSV have: none is an array
abbrev pub column_fields : List (List ℕ) → Fields
column_fields columns = record { at = λ path. csv_field_in path columns; items = λ path. [] }

-- what a payload of a form has at each path: nothing where it is no record
unfoldable pub fields_of_payload : Form → List ℕ → Fields
fields_of_payload Json b = record { at = json_field b; items = json_items b }
fields_of_payload Csv b = record { at = csv_field b; items = λ path. [] }

-- what a definition gives for a payload of a form
abbrev pub evaluation : Definition → Evaluation
evaluation def form payload = values def (fields_of_payload form payload)

-- this value is among those that a definition gives for a payload of a form
abbrev pub GivesValue : Definition → Form → List ℕ → Value → Type 0
GivesValue def form payload v = Contains (evaluation def form payload) v
