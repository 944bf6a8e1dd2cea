-- What reading below the base leaves of the pages that are held, and of the disk. What private clauses need of it.
use Rattle.std.specs.Prelude.{ℕ, ◌≤◌, Result, IsErrOf}
use Rattle.fish_cold.specs.declared.refusal.ColdRefusal.TheVariants.{Damaged, DiskFault, OutOfMemory}
use Rattle.fish_cold.specs.declared.refusal.ColdRefusal.{ColdRefusal}
use Rattle.fish_outside.specs.Causes.{Rose}

-- where the disk failed, its count of faults rose
abbrev pub IsFaultOf : {T : Type 0} → ℕ → ℕ → Result T ColdRefusal → Type 0
IsFaultOf before now result = IsErrOf result DiskFault → Rose before now

-- damage is at a number from one on and up to another
abbrev pub IsDamageIn : ℕ → ℕ → ColdRefusal → Type 0
IsDamageIn from to (Damaged n) = (from ≤ n) × (n ≤ to)
IsDamageIn from to DiskFault = from ≤ to
IsDamageIn from to OutOfMemory = Unit {0}
