-- Which words are headers, and what they say.
use Rattle.std.specs.Prelude.{ℕ, ◌≡◌, ◌^◌, ◌<◌, ◌≤◌, Option, Some, None}
use Rattle.fish_value.specs.declared.field.Form.{Form}
use Rattle.fish_layout.specs.Header.{form_code, header_word, void_word}
use Rattle.fish_layout.specs.declared.header.Header.{Header}

-- the fields of a record's header are within the limits of records
pub record AreWithinLimits (h : Header) : Type 0 where
  pub some_lines : 1 ≤ h.lines
  pub keys : h.keys ≤ 256
  pub some_lane : 1 ≤ h.lane
  pub lane : h.lane ≤ 16
  pub version : h.version ≤ 512
  pub length : h.length ≤ 524288

-- the word is the header of a record of this form with these fields
pub record IsRecordHeader (word : ℕ) (f : Form) (h : Header) : Type 0 where
  pub limits : AreWithinLimits h
  pub lines : h.lines < 2 ^ 16
  pub is : word ≡ header_word h.lines (form_code f) h.keys h.lane h.version h.length

-- the word is the header of a void with these lines, whose other fields are zero
pub record IsVoidHeader (word : ℕ) (h : Header) : Type 0 where
  pub some_lines : 1 ≤ h.lines
  pub lines : h.lines < 2 ^ 16
  pub keys : h.keys ≡ 0
  pub lane : h.lane ≡ 0
  pub version : h.version ≡ 0
  pub length : h.length ≡ 0
  pub is : word ≡ void_word h.lines

-- the same by the form, which a void has not
abbrev pub IsHeaderOf : ℕ → Header → Option Form → Type 0
IsHeaderOf word h (Some f) = IsRecordHeader word f h
IsHeaderOf word h None = IsVoidHeader word h

-- the word is a header that says this
abbrev pub IsHeader : ℕ → Header → Type 0
IsHeader word h = IsHeaderOf word h h.form
