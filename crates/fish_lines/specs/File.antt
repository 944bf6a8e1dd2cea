-- The records of a file of either form.
use Rattle.std.specs.Prelude.{ℕ, List, Bool, Option}
use Rattle.fish_value.specs.declared.field.Form.{Form}
use Rattle.fish_value.specs.declared.field.Form.TheVariants.{Json, Csv}
use Rattle.fish_json.specs.Lines as json
use Rattle.fish_csv.specs.Rows as csv

-- of each line in JSON its payload, or none where it is refused, and of each row in CSV, after the header
-- where there is to be one
unfoldable pub outcomes : Form → Bool → List ℕ → List (Option (List ℕ))
outcomes Json header b = json.line_outcomes b
outcomes Csv header b = csv.row_outcomes header b
