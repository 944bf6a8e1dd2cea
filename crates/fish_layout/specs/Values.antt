-- The bytes of values.
use Rattle.std.specs.Prelude.{ℕ, ◌-◌, ◌^◌, ℤ, pos, negsuc, List, [], ◌∷◌, if◌then◌else◌}
use Rattle.std.specs.Int.{to_le_bytes}
use Rattle.std.specs.Int.Width.{w64}
use Rattle.fish_value.specs.declared.value.Value.{Value}
use Rattle.fish_value.specs.declared.value.Value.TheVariants as kind

-- a whole number of 64 bits in two's complement
abbrev pub complement : ℤ → ℕ
complement (pos n) = n
complement (negsuc n) = 2 ^ 64 - 1 - n

-- the bytes of a value: one for a truth value, eight for a whole number, low byte first, and a text's own
abbrev pub value_bytes : Value → List ℕ
value_bytes (kind.Bool b) = (if b then 1 else 0) ∷ []
value_bytes (kind.Int n) = to_le_bytes w64 (complement n)
value_bytes (kind.Text s) = s

-- the code of a value's kind
abbrev pub kind_code : Value → ℕ
kind_code (kind.Bool b) = 0
kind_code (kind.Int n) = 1
kind_code (kind.Text s) = 2
