-- What is kept of a line that no LF has ended yet.
use Rattle.std.specs.Prelude.{◌≡◌, ◌==◌, ◌-◌, ℕ, Bool, List, [], ◌∷◌, length, take, slice_index, if◌then◌else◌}
use Rattle.std.specs.List.{slice_split}
use Rattle.std.specs.Str.Lines.{strip_carriage_return}
use Rattle.fish_json.specs.Lines.{is_blank_line, is_line_end}
use Rattle.fish_lines.specs.Lines.{given}
use Rattle.fish_lines.specs.declared.open_line.OpenLine.{OpenLine}
use Rattle.fish_lines.specs.declared.splitter.Line.{Line}

-- the most bytes that are kept of a line: one more than a payload may have
abbrev pub longest_kept : ℕ
longest_kept = 524289

-- bytes end in a CR
abbrev pub ends_in_cr : List ℕ → Bool
ends_in_cr b = slice_index b (length b - 1) == 13

-- an open line holds what counts of these bytes, among which is no LF
pub record IsLineOpen (o : OpenLine) (t : List ℕ) : Type 0 where
  pub no_end : slice_split is_line_end t ≡ t ∷ []
  pub kept : o.bytes ≡ take longest_kept (strip_carriage_return t)
  pub cr : o.ends_in_cr ≡ ends_in_cr t

-- the line that the kept bytes are as they stand, as it is given; none where it is blank
abbrev pub line_in : OpenLine → List Line
line_in o = if is_blank_line o.bytes then [] else given o.bytes ∷ []
