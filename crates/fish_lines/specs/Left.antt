-- What is left of a file that is read line by line.
use Rattle.std.specs.Prelude.{ℕ, List}
use Rattle.std.specs.List.{slice_split}
use Rattle.fish_json.specs.Lines.{is_line_end, lines_of_parts}
use Rattle.fish_lines.specs.declared.lines.Lines.{Lines}

-- the lines that are still to come
unfoldable pub lines_left : Lines → List (List ℕ)
lines_left l = lines_of_parts (slice_split is_line_end l.rest.now)
