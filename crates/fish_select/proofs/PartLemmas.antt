-- The lines and rows of a part, as its outcomes.
use Rattle.std.proofs.Common.{◌≡◌, ℕ, List, Bool, map, ap}
use Rattle.std.specs.List.{slice_split}
use Rattle.fish_csv.specs.Left as csv_left
use Rattle.fish_csv.specs.Reading.{rows_in}
use Rattle.fish_csv.specs.Rows as csv
use Rattle.fish_csv.specs.declared.file.RowTexts.{RowTexts}
use Rattle.fish_json.specs.Lines as json
use Rattle.fish_lines.specs.File.{outcomes}
use Rattle.fish_lines.specs.Left.{lines_left}
use Rattle.fish_lines.specs.Lines.{file_lines}
use Rattle.fish_lines.specs.Resuming.{outcomes_from}
use Rattle.fish_lines.specs.declared.lines.Lines.{Lines}
use Rattle.fish_lines.specs.declared.resuming.Begin.TheVariants.{After, Start}
use Rattle.fish_value.specs.declared.field.Form.TheVariants.{Csv, Json}

-- lines that begin where the file does
pub first_lines : (lines : Lines) (header : Bool) (b : List ℕ) → lines_left lines ≡ file_lines b
    → map json.payload_of_line (lines_left lines) ≡ outcomes_from Json (Start header) b
unfolding outcomes_from outcomes json.line_outcomes json.line_outcomes_of
first_lines lines header b is = ap (map json.payload_of_line) is

-- and after others
pub later_lines : (lines : Lines) (b : List ℕ) → lines.rest.now ≡ b
    → map json.payload_of_line (lines_left lines) ≡ outcomes_from Json After b
unfolding outcomes_from json.line_outcomes_of lines_left
later_lines lines b is =
    ap (λ (z : List ℕ). map json.payload_of_line (json.lines_of_parts (slice_split json.is_line_end z))) is

-- rows likewise
pub first_rows : (rows : RowTexts) (header : Bool) (b : List ℕ) → csv_left.rows_left rows ≡ csv.row_outcomes header b
    → csv_left.rows_left rows ≡ outcomes_from Csv (Start header) b
unfolding outcomes_from outcomes
first_rows rows header b is = is

pub later_rows : (rows : RowTexts) (b : List ℕ) → rows.rest.now ≡ b → csv_left.rows_left rows ≡ outcomes_from Csv After b
unfolding outcomes_from csv_left.rows_left
later_rows rows b is = ap (λ (z : List ℕ). map csv.payload_of_row (rows_in z)) is
