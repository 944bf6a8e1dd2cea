-- What a record of any form has at each path that was read with the memory of a reader.
use Rattle.fish_value.specs.declared.field.Form.{Form}
use Rattle.fish_value.specs.declared.field.Form.TheVariants as form
use Rattle.fish_json.specs.Row.{row_contents}
use Rattle.fish_csv.specs.Row.{row_fields}
use Rattle.fish_psf.specs.Eval.{Fields}
use Rattle.fish_psf.specs.Records.{column_fields, object_fields}
use Rattle.fish_read.specs.declared.reader.RecordRow.{RecordRow}
use Rattle.fish_read.specs.declared.reader.RecordRow.TheVariants.{Json, Csv}

-- the fields of the record that was read
abbrev pub fields_in_row : RecordRow → Fields
fields_in_row (Json line) = object_fields (row_contents line)
fields_in_row (Csv row) = column_fields (row_fields row)

-- its form
abbrev pub form_of_row : RecordRow → Form
form_of_row (Json line) = form.Json
form_of_row (Csv row) = form.Csv
