-- Where the parts of a store file stand, in bytes from its start.
use Rattle.std.specs.Prelude.{ℕ, ◌+◌, ◌*◌}

-- how many bytes the body of a slot has
abbrev pub body_bytes : ℕ
body_bytes = 86016

-- where the gate of a slot is
abbrev pub gate_at : ℕ → ℕ
gate_at slot = 4096 * slot

-- where the body of a slot begins
abbrev pub body_at : ℕ → ℕ
body_at slot = 8192 + 86016 * slot

-- where the first line of the log begins
abbrev pub lines_at : ℕ
lines_at = 180224
