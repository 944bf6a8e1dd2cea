-- The record's fields are those of its row.
use Rattle.fish_csv.specs.Contents.{fields_in}
use Rattle.fish_csv.proofs.record.CsvRecord.look.Goals as goal

pub returns : goal.returns
unfolding fields_in
returns c = c.field_at.ensures
