-- The limits of a catalogue, as numbers. A constant in code is held to its number.
use Rattle.std.specs.Prelude.{ℕ}

-- the most definitions of a store
abbrev pub most_rows : ℕ
most_rows = 256

-- the most definitions that are active at once
abbrev pub most_active : ℕ
most_active = 32

-- the newest format of a store file
abbrev pub newest_format : ℕ
newest_format = 2

-- the most definitions that are active at once in a store file of format 1
abbrev pub most_active_at_first : ℕ
most_active_at_first = 16
