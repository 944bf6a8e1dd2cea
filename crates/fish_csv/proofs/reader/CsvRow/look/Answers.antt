-- The record's fields are those of its row.
use Rattle.fish_csv.specs.Row.{row_fields}
use Rattle.fish_csv.proofs.reader.CsvRow.look.Goals as goal

pub returns : goal.returns
unfolding row_fields
returns c = c.field_at.ensures
