-- The limits of a definition, as numbers. A constant in code is held to its number.
use Rattle.std.specs.Prelude.{ℕ}

-- the most bytes of a source
abbrev pub longest_source : ℕ
longest_source = 4096

-- the most bytes of a canonical text
abbrev pub longest_canonical : ℕ
longest_canonical = 255
