-- The lines of a file by its parts between LFs.
use Rattle.std.proofs.Common.{◌≡◌, ℕ, List, ◌∷◌, refl}
use Rattle.std.specs.Prelude.{Bool, true, false, not, map, filter, if◌then◌else◌}
use Rattle.std.specs.Str.Lines.{strip_carriage_return}
use Rattle.fish_json.specs.Lines.{is_blank_line, lines_of_parts}
use Rattle.fish_lines.specs.within.Lines.{with_line}

-- a filter at a line whose test is known
filter-cons : (line : List ℕ) (lines : List (List ℕ)) (blank : Bool) → is_blank_line line ≡ blank
    → filter (λ l. not (is_blank_line l)) (line ∷ lines)
    ≡ (if blank then filter (λ l. not (is_blank_line l)) lines else line ∷ filter (λ l. not (is_blank_line l)) lines)
filter-cons line lines true h = rw h
filter-cons line lines false h = rw h

-- one more part is one more line in front, unless it is blank
pub lines_of_parts-cons : (part : List ℕ) (parts : List (List ℕ))
    → lines_of_parts (part ∷ parts) ≡ with_line (strip_carriage_return part) (lines_of_parts parts)
lines_of_parts-cons part parts =
    filter-cons (strip_carriage_return part) (map strip_carriage_return parts)
    (is_blank_line (strip_carriage_return part)) refl
