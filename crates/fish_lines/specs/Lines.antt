-- The lines of a file in JSON Lines, as they are given out, by the whole list of the file's bytes.
use Rattle.std.specs.Prelude.{ℕ, List, [], ◌∷◌, length, map, nat_le, if◌then◌else◌}
use Rattle.std.specs.List.{slice_split}
use Rattle.fish_json.specs.Lines.{is_line_end, lines_of_parts, without_mark}
use Rattle.fish_value.specs.Limits.{longest_payload}
use Rattle.fish_lines.specs.declared.splitter.Line.{Line}
use Rattle.fish_lines.specs.declared.splitter.Line.TheVariants.{Whole, TooLong}

-- the parts of a file round its LFs; a byte order mark at its start counts nowhere
abbrev pub parts_in : List ℕ → List (List ℕ)
parts_in b = slice_split is_line_end (without_mark b)

-- the parts that an LF ends: all but the last
abbrev pub ended_parts : List (List ℕ) → List (List ℕ)
ended_parts [] = []
ended_parts (part ∷ []) = []
ended_parts (part ∷ next ∷ parts) = part ∷ ended_parts (next ∷ parts)

-- the part after the last LF
abbrev pub last_part : List (List ℕ) → List ℕ
last_part [] = []
last_part (part ∷ []) = part
last_part (part ∷ next ∷ parts) = last_part (next ∷ parts)

-- the lines of a file: each without one CR at its end, and the blank ones count nowhere
abbrev pub file_lines : List ℕ → List (List ℕ)
file_lines b = lines_of_parts (parts_in b)

-- a line as it is given: its bytes, or that it has more than 524,288
abbrev pub given : List ℕ → Line
given line = if nat_le (length line) longest_payload then Whole line else TooLong

-- the lines among some parts, as they are given: each without one CR at its end, and the blank ones count nowhere
abbrev pub given_of : List (List ℕ) → List Line
given_of parts = map given (lines_of_parts parts)

-- the lines of a file
unfoldable pub given_lines : List ℕ → List Line
given_lines b = given_of (parts_in b)

-- those that an LF ends
unfoldable pub whole_lines : List ℕ → List Line
whole_lines b = given_of (ended_parts (parts_in b))
