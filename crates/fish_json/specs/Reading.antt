-- Which bytes are a record in JSON, and what it has at a path.
use Rattle.std.specs.Prelude.{ℕ, ℤ, List, [], ◌∷◌, length, nat_le, Option, Some, None, option_and_then, if◌then◌else◌}
use Rattle.serde_json.specs.Data.{Data, Items, null, boolean, number, string, array, object, no_items, item}
use Rattle.serde_json.specs.Find.{as_i64, get}
use Rattle.fish_value.specs.Json.{reading}
use Rattle.fish_value.specs.declared.field.Field.{Field}
use Rattle.fish_value.specs.declared.field.Field.TheVariants as kind
use Rattle.fish_value.specs.Limits.{longest_payload}

-- the data where it is an object
abbrev pub if_object : Data → Option Data
if_object (object ms) = Some (object ms)
if_object _ = None

-- the object that bytes are: none over 524,288 bytes, and none where they are not JSON or another JSON value
unfoldable pub record_of : List ℕ → Option Data
record_of b = if nat_le (length b) longest_payload then option_and_then if_object (reading b) else None

-- a number is an Int where it is whole and within 64 bits with a sign, else it is of another kind
abbrev pub int_or_other : Option ℤ → Field
int_or_other (Some n) = kind.Int n
int_or_other None = kind.Other

-- the field that data is
abbrev pub kind_of_data : Data → Field
kind_of_data null = kind.Null
kind_of_data (boolean b) = kind.Bool b
kind_of_data (number n) = int_or_other (as_i64 n)
kind_of_data (string s) = kind.Text s
kind_of_data (array ds) = kind.Other
kind_of_data (object ms) = kind.Other

-- what a path leads to, name by name through objects
abbrev pub at_path : List (List ℕ) → Data → Option Data
at_path [] d = Some d
at_path (step ∷ steps) d = option_and_then (at_path steps) (get step d)

-- what was found as a field: Missing where nothing was
abbrev pub json_field_of : Option Data → Field
json_field_of None = kind.Missing
json_field_of (Some d) = kind_of_data d

-- what a record that was read has at a path
unfoldable pub json_field_in : List (List ℕ) → Data → Field
json_field_in path d = json_field_of (at_path path d)

-- the fields of an array's elements
abbrev pub item_fields : Items → List Field
item_fields no_items = []
item_fields (item d ds) = kind_of_data d ∷ item_fields ds

-- the fields of the elements of what was found: none where that is no array
abbrev pub items_of : Option Data → List Field
items_of (Some (array ds)) = item_fields ds
items_of _ = []

-- the fields of the elements of the array that a record that was read has at a path
unfoldable pub items_in : List (List ℕ) → Data → List Field
items_in path d = items_of (at_path path d)

-- the fields of the elements of the array that a payload has at a path
unfoldable pub items : List ℕ → List (List ℕ) → List Field
items payload path = items_of (option_and_then (at_path path) (record_of payload))

-- what a payload has at a path: Missing where the bytes are no record
unfoldable pub json_field : List ℕ → List (List ℕ) → Field
json_field payload path = json_field_of (option_and_then (at_path path) (record_of payload))
