-- What a page that is held says, and what a call of the disk does. What private clauses need of it.
use Rattle.std.specs.Prelude.{⊤}
use Rattle.fish_cold.specs.declared.refusal.ColdRefusal.TheVariants.{Damaged, DiskFault, OutOfMemory}
use Rattle.fish_cold.specs.declared.refusal.ColdRefusal.{ColdRefusal}

-- the refusal says nothing of the words
abbrev pub IsColdUndamaged : ColdRefusal → Type 0
IsColdUndamaged (Damaged n) = ⊥
IsColdUndamaged DiskFault = ⊤
IsColdUndamaged OutOfMemory = ⊤
