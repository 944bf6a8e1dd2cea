-- What the reading of a file takes at a turn, and which lines are rows without quotes.
use Rattle.std.specs.Prelude.{◌≡◌, ◌<◌, ◌==◌, ◌||◌, ℕ, List, [], ◌∷◌, length, Bool, true, Option}
use Rattle.fish_csv.specs.Reading.{rows_in}
use Rattle.fish_csv.specs.Rows.{payload_of_row, stored_text}

-- the first row of a text has this payload or is refused, and the rows after it are those of a shorter text
abbrev pub TakesRow : List ℕ → Option (List ℕ) → List ℕ → Type 0
TakesRow b outcome rest =
    (fields : List (List ℕ)) × (rows_in b ≡ fields ∷ rows_in rest) × (payload_of_row fields ≡ outcome)
    × (length rest < length b)

-- a text that `csv` writes for a row, without the line end
abbrev pub IsStored : List ℕ → Type 0
IsStored text = (fields : List (List ℕ)) × (text ≡ stored_text fields)

-- a byte that stands in no field that was written without quotes, a comma aside
abbrev pub is_mark : ℕ → Bool
is_mark c = c == 34 || c == 13 || c == 10

-- a line ends before a text: a line end comes, or nothing
abbrev pub ends_line : List ℕ → Bool
ends_line [] = true
ends_line (c ∷ rest) = c == 13 || c == 10
