-- A line that was read, as a record and as an outcome.
use Rattle.std.proofs.Common.{◌≡◌, ℕ, List, Option, ap, ◌∙◌}
use Rattle.std.specs.Prelude.{Some, None, IsUtf8}
use Rattle.serde_json.specs.Data.{Data}
use Rattle.fish_json.specs.Lines.{payload_of_line}
use Rattle.fish_json.specs.Reading.{record_of}
use Rattle.fish_json.proofs.Records.{record_is_text}
use Rattle.fish_lang.specs.Definition.{Definition}
use Rattle.fish_psf.specs.Eval.{Fields, values}
use Rattle.fish_psf.specs.Records.{object_fields}
use Rattle.fish_psf.specs.Select.{has_value}
use Rattle.fish_psf.proofs.RecordLemmas.{json_fields}
use Rattle.fish_value.specs.declared.field.Form.TheVariants.{Json}
use Rattle.fish_value.specs.declared.value.Value.{Value}
use Rattle.fish_select.specs.within.Selection.{is_selected}
use Rattle.fish_select.specs.within.Found.{kept_if, with_outcome, with_record}
use Rattle.fish_select.specs.declared.found.Found.{Found}

-- a line is a record: it is a text, and its payload is the line
pub record IsRecord (line : List ℕ) : Type 0 where
  pub text : IsUtf8 line
  pub payload : payload_of_line line ≡ Some line

-- a line whose object was read is a record
pub record_is_read : (line : List ℕ) (d : Data) → record_of line ≡ Some d → IsRecord line
record_is_read line d h = record { text = record_is_text line d h; payload = rw h }

-- a line with no object is refused
pub payload_of_none : (line : List ℕ) → record_of line ≡ None → payload_of_line line ≡ None
payload_of_none line h = rw h

-- a line that was read counts as its payload
pub line_counts : (def : Definition) (v : Value) (t : Found) (line : List ℕ) (d : Data) (kept : Option (List ℕ))
    → record_of line ≡ Some d → kept ≡ kept_if (has_value (values def (object_fields d)) v) line
    → with_record t kept ≡ with_outcome (is_selected def v Json) t (payload_of_line line)
line_counts def v t line d kept h same =
    rw (record_is_read line d h).payload
    (ap (with_record t)
    (same ∙ ap (λ (fields : Fields). kept_if (has_value (values def fields) v) line) (json_fields line d h)))
