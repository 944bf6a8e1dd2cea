-- The lines of a file in JSON Lines, as they are given out, by the whole list of the file's bytes. What private clauses
-- need of it.
use Rattle.std.specs.Prelude.{ℕ, List, ◌∷◌, if◌then◌else◌}
use Rattle.fish_json.specs.Lines.{is_blank_line}

-- lines with one more in front, unless it is blank
abbrev pub with_line : List ℕ → List (List ℕ) → List (List ℕ)
with_line line more = if is_blank_line line then more else line ∷ more
