-- The second and third words of a key entry: where each of their fields lies.
use Rattle.std.specs.Prelude.{ℕ}
use Rattle.fish_layout.specs.Header.{field}

-- the record's number: bits 0 to 27 of the second word
unfoldable pub entry_number : ℕ → ℕ
entry_number w = field w 0 28

-- the definition's id: bits 28 to 35 of the second word
unfoldable pub entry_id : ℕ → ℕ
entry_id w = field w 28 8

-- the entry's position in its record: bits 36 to 44 of the second word
unfoldable pub entry_place : ℕ → ℕ
entry_place w = field w 36 9

-- the code of the value's kind: bits 0 and 1 of the third word
unfoldable pub value_kind : ℕ → ℕ
value_kind w = field w 0 2

-- the length of the value's bytes: bits 2 to 10 of the third word
unfoldable pub value_size : ℕ → ℕ
value_size w = field w 2 9

-- the offset of the value's bytes: bits 11 to 28 of the third word
unfoldable pub value_offset : ℕ → ℕ
value_offset w = field w 11 18
