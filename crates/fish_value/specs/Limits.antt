-- The limits that hold for more than one crate, as numbers. A constant in code is held to its number.
use Rattle.std.specs.Prelude.{ℕ}

-- the most bytes of a text as a value
abbrev pub longest_value : ℕ
longest_value = 256

-- the most bytes of a payload
abbrev pub longest_payload : ℕ
longest_payload = 524288

-- the most bytes of a file that is read whole
abbrev pub longest_file : ℕ
longest_file = 67108864

-- the most bytes of a name
abbrev pub longest_name : ℕ
longest_name = 32
