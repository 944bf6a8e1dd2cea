-- What callers know of a record that was read.
use Rattle.std.specs.Prelude.{ℕ, List}
use Rattle.csv.specs.Records.{fields_of}
use Rattle.fish_csv.specs.declared.record.CsvRecord.{CsvRecord}

-- its fields
unfoldable pub fields_in : CsvRecord → List (List ℕ)
fields_in r = fields_of r.row
