-- Why a definition is not registered or not ended, and what a call leaves where it is. What private clauses need of it.
use Rattle.std.specs.Prelude.{⊤}
use Rattle.fish_registry.specs.declared.outcome.RegRefusal.TheVariants as refusal
use Rattle.fish_registry.specs.declared.outcome.RegRefusal.{RegRefusal}

-- a refusal that comes before the rows are looked at
abbrev pub IsOfVersions : RegRefusal → Type 0
IsOfVersions (refusal.Rolling id) = ⊤
IsOfVersions refusal.TooManyVersions = ⊤
IsOfVersions e = ⊥

-- a refusal of a row that is to be added
abbrev pub IsOfRows : RegRefusal → Type 0
IsOfRows refusal.NameActive = ⊤
IsOfRows refusal.TooManyActive = ⊤
IsOfRows refusal.TooManyDefinitions = ⊤
IsOfRows refusal.OutOfMemory = ⊤
IsOfRows e = ⊥
