-- What callers know of a record that was read with the memory of a reader.
use Rattle.std.specs.Prelude.{ℕ, List}
use Rattle.csv.specs.Records.{fields_of}
use Rattle.fish_csv.specs.declared.reader.CsvRow.{CsvRow}

-- its fields
unfoldable pub row_fields : CsvRow → List (List ℕ)
row_fields r = fields_of r.row.now
