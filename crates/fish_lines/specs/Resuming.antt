-- The records of a file from where its reading begins, or goes on.
use Rattle.std.specs.Prelude.{ℕ, ◌≡◌, ◌≤◌, false, List, Option, drop, length}
use Rattle.std.specs.List.{slice_split}
use Rattle.fish_csv.specs.Reading.{rows_in}
use Rattle.fish_csv.specs.Rows as csv
use Rattle.fish_json.specs.Lines as json
use Rattle.fish_json.specs.Lines.{is_line_end}
use Rattle.fish_lines.specs.File.{outcomes}
use Rattle.fish_lines.specs.declared.resuming.Begin.{Begin}
use Rattle.fish_lines.specs.declared.resuming.Begin.TheVariants.{Start, After}
use Rattle.fish_value.specs.declared.field.Form.{Form}
use Rattle.fish_value.specs.declared.field.Form.TheVariants.{Json, Csv}

-- of each line or row of these bytes its payload, or none where it is refused: at a file's start those of the file; and after others
-- each line or row counts, and no byte order mark is looked for
unfoldable pub outcomes_from : Form → Begin → List ℕ → List (Option (List ℕ))
outcomes_from form (Start header) b = outcomes form header b
outcomes_from Json After b = json.line_outcomes_of (slice_split is_line_end b)
outcomes_from Csv After b = csv.row_outcomes_of false (rows_in b)

-- the second bytes are what is left of the first once so many of their lines or rows were read
pub record IsLeftOf (form : Form) (begin : Begin) (b : List ℕ) (many : ℕ) (rest : List ℕ) : Type 0 where
  pub within : length rest ≤ length b
  pub others : outcomes_from form After rest ≡ drop many (outcomes_from form begin b)
