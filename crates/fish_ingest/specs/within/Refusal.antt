-- Why a payload is refused, and what a refusal leaves. What private clauses need of it.
use Rattle.std.specs.Prelude.{⊤}
use Rattle.fish_ingest.specs.declared.refusal.IngestRefusal.TheVariants as refusal
use Rattle.fish_ingest.specs.declared.refusal.IngestRefusal.{IngestRefusal}

-- it is one of the parse
abbrev pub IsEarly : IngestRefusal → Type 0
IsEarly (refusal.Full line lines end) = ⊥
IsEarly e = ⊤

-- it comes after the parse
abbrev pub IsLateRefusal : IngestRefusal → Type 0
IsLateRefusal refusal.OutOfMemory = ⊤
IsLateRefusal (refusal.Full line lines end) = ⊤
IsLateRefusal e = ⊥
