-- The entries so far are those of the definitions so far.
use Rattle.std.proofs.Common.{take}
use Rattle.fish_ingest.specs.within.Preparation.{AreEntriesFor}
use Rattle.fish_ingest.proofs.preparation.entries_of.Given as goal

abbrev pub invariant-loop-active : goal.invariant-loop-active
invariant-loop-active g l = AreEntriesFor (g.R.Parsed.fields l.found) (take l.active-index l.defs) l.keys
