-- The rows of a file in CSV, by the whole list of its bytes.
use Rattle.std.specs.Prelude.{ℕ, ◌-◌, List, length, take, drop, map, Bool, Option, Some, None, is_some, if◌then◌else◌}
use Rattle.csv.specs.Reading.{strip_bom}
use Rattle.csv.specs.Writing.{default_writer, row_text}
use Rattle.fish_csv.specs.Reading.{row_of, rows_in}

-- a row's text, as `csv` writes the row with its defaults, without the line end
unfoldable pub stored_text : List (List ℕ) → List ℕ
stored_text fields = take (length (row_text default_writer fields) - 1) (row_text default_writer fields)

-- a text where it is a payload
abbrev pub kept : List ℕ → Option (List ℕ)
kept text = if is_some (row_of text) then Some text else None

-- a row's payload is its text, where that is a row again
unfoldable pub payload_of_row : List (List ℕ) → Option (List ℕ)
payload_of_row fields = kept (stored_text fields)

-- the rows after the header, where there is to be one
abbrev pub without_header : Bool → List (List (List ℕ)) → List (List (List ℕ))
without_header header rows = if header then drop 1 rows else rows

-- of each row after the header its payload, or none where it is refused
abbrev pub row_outcomes_of : Bool → List (List (List ℕ)) → List (Option (List ℕ))
row_outcomes_of header rows = map payload_of_row (without_header header rows)

-- of each row of a file its payload, or none where it is refused; a byte order mark before the file counts nowhere
unfoldable pub row_outcomes : Bool → List ℕ → List (Option (List ℕ))
row_outcomes header b = row_outcomes_of header (rows_in (strip_bom b))
