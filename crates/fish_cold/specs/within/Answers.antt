-- What the words of a region answer. What private clauses need of it.
use Rattle.std.specs.Prelude.{ℕ, ◌≡◌}
use Rattle.std.specs.Prelude.{⊤}
use Rattle.fish_cold.specs.declared.refusal.ColdRefusal.TheVariants.{DiskFault, Damaged, OutOfMemory}
use Rattle.fish_cold.specs.declared.refusal.ColdRefusal.{ColdRefusal}

-- a refusal of words that were read: they are damaged at this number, or memory ran out
abbrev pub IsReadingOf : ℕ → ColdRefusal → Type 0
IsReadingOf number (Damaged n) = n ≡ number
IsReadingOf number DiskFault = ⊥
IsReadingOf number OutOfMemory = ⊤
