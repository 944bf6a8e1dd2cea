-- The limits of a script, as numbers. A constant in code is held to its number.
use Rattle.std.specs.Prelude.{ℕ}

-- the most bytes of a script
abbrev pub longest_script : ℕ
longest_script = 1048576

-- record numbers are below this
abbrev pub numbers_below : ℕ
numbers_below = 268435456

-- the most lanes of a block
abbrev pub most_lanes : ℕ
most_lanes = 16

-- the most ingests of a block
abbrev pub most_feeds : ℕ
most_feeds = 256
