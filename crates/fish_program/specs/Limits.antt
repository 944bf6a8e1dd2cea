-- The limits of the program, as numbers. A constant in code is held to its number.
use Rattle.std.specs.Prelude.{ℕ, Bool, true, false}

-- how many bytes of a script are read at most: one more than it may have
abbrev pub longest_read : ℕ
longest_read = 1048577

-- after how many calls of the disk at most a crash leaves nothing but the store as it was found: after the first,
-- or after those that make one
abbrev pub first_calls : Bool → ℕ
first_calls true = 8
first_calls false = 1
