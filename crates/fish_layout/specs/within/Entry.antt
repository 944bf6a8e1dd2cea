-- The second and third words of a key entry: where each of their fields lies. What private clauses need of it.
use Rattle.std.specs.Prelude.{ℕ, ◌+◌, ◌*◌, ◌/◌, ◌^◌}

-- the second word of a key entry with another number
abbrev pub renumbered : ℕ → ℕ → ℕ
renumbered w number = w / 2 ^ 28 * 2 ^ 28 + number
