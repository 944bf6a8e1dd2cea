-- The lines of a text.
use Rattle.std.specs.Prelude.{ℕ, List, [], ◌∷◌}
use Rattle.std.specs.List.{slice_split}
use Rattle.std.specs.Str.Lines.{strip_carriage_return}
use Rattle.fish_json.specs.Lines.{is_line_end}

-- the lines of the parts round the LFs: one CR before an LF is dropped, and what follows the last LF is a
-- line where it isn't empty
abbrev pub script_lines_of : List (List ℕ) → List (List ℕ)
script_lines_of [] = []
script_lines_of ([] ∷ []) = []
script_lines_of ((c ∷ rest) ∷ []) = (c ∷ rest) ∷ []
script_lines_of (part ∷ next ∷ parts) = strip_carriage_return part ∷ script_lines_of (next ∷ parts)

-- the lines of a text
unfoldable pub script_lines : List ℕ → List (List ℕ)
script_lines b = script_lines_of (slice_split is_line_end b)
