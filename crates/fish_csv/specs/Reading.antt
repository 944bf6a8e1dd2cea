-- Which bytes are a row in CSV, and what it has at a path.
use Rattle.std.specs.Prelude.{ℕ, ℤ, pos, negsuc, zero, suc, ◌==◌, List, [], ◌∷◌, length, drop, slice_index, nat_le}
use Rattle.std.specs.Prelude.{Option, Some, None, option_and_then, if◌then◌else◌}
use Rattle.std.specs.Str.{is_utf8}
use Rattle.csv.specs.Reading.{default_config, records, strip_bom}
use Rattle.csv.specs.Records.{field_at}
use Rattle.fish_value.specs.Number.{int_of}
use Rattle.fish_value.specs.declared.field.Field.{Field}
use Rattle.fish_value.specs.declared.field.Field.TheVariants as kind
use Rattle.fish_value.specs.Limits.{longest_payload}

-- the fields of each row of a text, as `csv` reads it with its defaults
unfoldable pub rows_in : List ℕ → List (List (List ℕ))
rows_in b = records default_config b

-- the element of a list of one
abbrev pub only : {X : Type 0} → List X → Option X
only [] = None
only (x ∷ []) = Some x
only (x ∷ y ∷ more) = None

-- the fields of the one row that bytes are: none where they are not UTF-8, and none where they are no row or several;
-- a byte order mark in front counts nowhere
unfoldable pub row_reading : List ℕ → Option (List (List ℕ))
row_reading b = if is_utf8 b then only (rows_in (strip_bom b)) else None

-- the fields of the row that a payload is: none over 524,288 bytes
unfoldable pub row_of : List ℕ → Option (List (List ℕ))
row_of b = if nat_le (length b) longest_payload then row_reading b else None

-- the position, from 0, that a number from 1 on stands for
abbrev pub column_position : ℤ → Option ℕ
column_position (pos zero) = None
column_position (pos (suc n)) = Some n
column_position (negsuc n) = None

-- the position of the column that a name is, `$` and a number
abbrev pub column_of : List ℕ → Option ℕ
column_of name = if slice_index name 0 == 36 then option_and_then column_position (int_of (drop 1 name)) else None

-- the position of the column that a path of one name is; a longer path is none
abbrev pub column_at : List (List ℕ) → Option ℕ
column_at [] = None
column_at (name ∷ []) = column_of name
column_at (name ∷ step ∷ steps) = None

-- a text is an Int where it is a whole number of 64 bits, else a Text
abbrev pub int_or_text : Option ℤ → List ℕ → Field
int_or_text (Some n) text = kind.Int n
int_or_text None text = kind.Text text

-- what was found as a field: Missing where nothing was
abbrev pub csv_field_of : Option (List ℕ) → Field
csv_field_of None = kind.Missing
csv_field_of (Some text) = int_or_text (int_of text) text

-- what a row that was read has at a path
unfoldable pub csv_field_in : List (List ℕ) → List (List ℕ) → Field
csv_field_in path fields = csv_field_of (option_and_then (field_at fields) (column_at path))

-- what a payload has at a path: Missing where the bytes are no row
unfoldable pub csv_field : List ℕ → List (List ℕ) → Field
csv_field payload path =
    csv_field_of (option_and_then (λ fields. option_and_then (field_at fields) (column_at path)) (row_of payload))
