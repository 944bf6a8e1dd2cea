-- What a record of any form has at each path.
use Rattle.fish_value.specs.declared.field.Form.{Form}
use Rattle.fish_value.specs.declared.field.Form.TheVariants as form
use Rattle.fish_json.specs.Contents.{contents}
use Rattle.fish_csv.specs.Contents.{fields_in}
use Rattle.fish_psf.specs.Eval.{Fields}
use Rattle.fish_psf.specs.Records.{column_fields, object_fields}
use Rattle.fish_psf.specs.declared.record.Record.{Record}
use Rattle.fish_psf.specs.declared.record.Record.TheVariants.{Json, Csv}

-- the fields of the record that was read
abbrev pub fields_of : Record → Fields
fields_of (Json line) = object_fields (contents line)
fields_of (Csv row) = column_fields (fields_in row)

-- its form
abbrev pub form_of_record : Record → Form
form_of_record (Json line) = form.Json
form_of_record (Csv row) = form.Csv
