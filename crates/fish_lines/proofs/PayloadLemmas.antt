-- A line that was read, as an outcome.
use Rattle.std.proofs.Common.{◌≡◌, ℕ, List}
use Rattle.std.specs.Prelude.{Some, None, IsUtf8}
use Rattle.serde_json.specs.Data.{Data}
use Rattle.fish_json.specs.Lines.{payload_of_line}
use Rattle.fish_json.specs.Reading.{record_of}
use Rattle.fish_json.proofs.Records.{record_is_text}

-- a line is a record: it is a text, and its payload is the line
pub record IsKept (line : List ℕ) : Type 0 where
  pub text : IsUtf8 line
  pub payload : payload_of_line line ≡ Some line

-- a line whose object was read is a record
pub record_is_kept : (line : List ℕ) (d : Data) → record_of line ≡ Some d → IsKept line
record_is_kept line d h = record { text = record_is_text line d h; payload = rw h }

-- a line with no object is refused
pub no_record_is_refused : (line : List ℕ) → record_of line ≡ None → payload_of_line line ≡ None
no_record_is_refused line h = rw h
