-- What is left of a file whose rows are read one by one.
use Rattle.std.specs.Prelude.{ℕ, List, Option, map}
use Rattle.fish_csv.specs.Reading.{rows_in}
use Rattle.fish_csv.specs.Rows.{payload_of_row}
use Rattle.fish_csv.specs.declared.file.RowTexts.{RowTexts}

-- of each row that is still to come its payload, or none where it is refused
unfoldable pub rows_left : RowTexts → List (Option (List ℕ))
rows_left texts = map payload_of_row (rows_in texts.rest.now)
