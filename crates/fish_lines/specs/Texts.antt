-- What is left of a file that is read record by record, in either form.
use Rattle.std.specs.Prelude.{ℕ, List, Option, Some, None, length, map}
use Rattle.fish_csv.specs.Left.{rows_left}
use Rattle.fish_json.specs.Lines as json
use Rattle.fish_lines.specs.Left.{lines_left}
use Rattle.fish_lines.specs.declared.texts.RecordText.{RecordText}
use Rattle.fish_lines.specs.declared.texts.RecordText.TheVariants as text
use Rattle.fish_lines.specs.declared.texts.RecordTexts.{RecordTexts}
use Rattle.fish_lines.specs.declared.texts.RecordTexts.TheVariants as texts
use Rattle.fish_value.specs.declared.field.Form.{Form}
use Rattle.fish_value.specs.declared.field.Form.TheVariants.{Csv, Json}

-- of each line or row that is still to come its payload, or none where it is refused
abbrev pub texts_left : RecordTexts → List (Option (List ℕ))
texts_left (texts.Lines lines) = map json.payload_of_line (lines_left lines)
texts_left (texts.Rows rows) = rows_left rows

-- how many bytes they have at most
abbrev pub bytes_left : RecordTexts → ℕ
bytes_left (texts.Lines lines) = length lines.rest.now
bytes_left (texts.Rows rows) = length rows.rest.now

-- the form of a file that is so read
abbrev pub form_of_texts : RecordTexts → Form
form_of_texts (texts.Lines lines) = Json
form_of_texts (texts.Rows rows) = Csv

-- the form of a file that gives a text
abbrev pub text_form : RecordText → Form
text_form (text.Line line) = Json
text_form (text.Row row) = Csv
text_form text.Refused = Csv

-- the payload that a text is, or none where it is refused
abbrev pub payload_in_text : RecordText → Option (List ℕ)
payload_in_text (text.Line line) = json.payload_of_line line.now
payload_in_text (text.Row row) = Some row
payload_in_text text.Refused = None
