-- The header word of a region of the log: where each of its fields lies.
use Rattle.std.specs.Prelude.{ℕ, ◌+◌, ◌*◌, ◌/◌, ◌%◌, ◌^◌}
use Rattle.fish_value.specs.declared.field.Form.{Form}
use Rattle.fish_value.specs.declared.field.Form.TheVariants.{Json, Csv}

-- so many bits of a word, from bit `at` on
unfoldable pub field : ℕ → ℕ → ℕ → ℕ
field w at width = w / 2 ^ at % 2 ^ width

-- the lines of the region: bits 0 to 15
unfoldable pub lines_of : ℕ → ℕ
lines_of w = field w 0 16

-- the code of the form: bits 16 and 17
unfoldable pub form_of : ℕ → ℕ
form_of w = field w 16 2

-- the number of key entries: bits 18 to 26
unfoldable pub keys_of : ℕ → ℕ
keys_of w = field w 18 9

-- the lane: bits 27 to 31
unfoldable pub lane_of : ℕ → ℕ
lane_of w = field w 27 5

-- the bytes of the payload: bits 42 to 61
unfoldable pub length_of : ℕ → ℕ
length_of w = field w 42 20

-- the code of a form; 2 is a void's
abbrev pub form_code : Form → ℕ
form_code Json = 0
form_code Csv = 1

-- a word from its fields; bits 62 and 63 are zero
abbrev pub header_word : ℕ → ℕ → ℕ → ℕ → ℕ → ℕ → ℕ
header_word lines form keys lane version length =
    lines + form * 2 ^ 16 + keys * 2 ^ 18 + lane * 2 ^ 27 + version * 2 ^ 32 + length * 2 ^ 42

-- the header of a void: its lines and form 2
abbrev pub void_word : ℕ → ℕ
void_word lines = lines + 2 * 2 ^ 16
