-- The tables of a run. What private clauses need of them.
use Rattle.std.specs.Prelude.{ℕ, List, [], ◌∷◌}
use Rattle.fish_run.specs.Blocks.{Round}
use Rattle.fish_run.specs.Tables.{table_of}

-- the number at which the table of the last round begins, where that of before them begins at this one
abbrev pub table_after : ℕ → List Round → ℕ
table_after first [] = first
table_after first (b ∷ rounds) = table_after (table_of first b) rounds
