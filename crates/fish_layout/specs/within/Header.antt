-- The header word of a region of the log: where each of its fields lies. What private clauses need of it.
use Rattle.std.specs.Prelude.{ℕ}
use Rattle.fish_layout.specs.Header.{field}

-- the version: bits 32 to 41
unfoldable pub header_version : ℕ → ℕ
header_version w = field w 32 10
