-- The records of a file in JSON Lines, by the whole list of its bytes.
use Rattle.std.specs.Prelude.{ℕ, ◌==◌, ◌&&◌, ◌||◌, List, [], ◌∷◌, length, drop, map, filter, nat_eq, nat_le, Bool, not}
use Rattle.std.specs.Prelude.{Option, option_map, if◌then◌else◌}
use Rattle.std.specs.List.{list_all, slice_split, starts_with}
use Rattle.std.specs.Str.Lines.{strip_carriage_return}
use Rattle.fish_json.specs.Reading.{record_of}
use Rattle.fish_value.specs.Limits.{longest_payload}

-- U+FEFF in UTF-8, which some writers put at a file's start
abbrev pub byte_order_mark : List ℕ
byte_order_mark = 0xef ∷ 0xbb ∷ 0xbf ∷ []

-- the file without a byte order mark at its start
abbrev pub without_mark : List ℕ → List ℕ
without_mark b = if starts_with nat_eq b byte_order_mark then drop 3 b else b

-- LF ends a line
abbrev pub is_line_end : ℕ → Bool
is_line_end b = b == 10

-- a space, a tab or a CR
abbrev pub is_blank_byte : ℕ → Bool
is_blank_byte b = b == 32 || b == 9 || b == 13

-- a line of at most 524,288 bytes is blank where all of them are spaces, tabs or CRs
abbrev pub is_blank_line : List ℕ → Bool
is_blank_line line = nat_le (length line) longest_payload && list_all is_blank_byte line

-- a line's payload is the line itself, where it is a record
abbrev pub payload_of_line : List ℕ → Option (List ℕ)
payload_of_line line = option_map (λ _. line) (record_of line)

-- the lines among the parts round the LFs: each without one CR at its end, and the blank ones count nowhere
abbrev pub lines_of_parts : List (List ℕ) → List (List ℕ)
lines_of_parts parts = filter (λ line. not (is_blank_line line)) (map strip_carriage_return parts)

-- of each line its payload, or none where it is refused
unfoldable pub line_outcomes_of : List (List ℕ) → List (Option (List ℕ))
line_outcomes_of parts = map payload_of_line (lines_of_parts parts)

-- of each line of a file its payload, or none where it is refused
unfoldable pub line_outcomes : List ℕ → List (Option (List ℕ))
line_outcomes b = line_outcomes_of (slice_split is_line_end (without_mark b))
