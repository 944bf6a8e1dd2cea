-- All keys are proper where those that are left are, from the least id on that may follow, once those before are.
use Rattle.std.proofs.Common.{length}
use Rattle.std.specs.Prelude.{◌↔◌}
use Rattle.fish_layout.specs.Body.{AreProperKeys}
use Rattle.fish_layout.proofs.proper.are_proper_keys.Given as goal

abbrev pub invariant-loop-rest : goal.invariant-loop-rest
invariant-loop-rest l = AreProperKeys l.least l.rest ↔ AreProperKeys 0 l.keys

abbrev pub decreases-loop-rest : goal.decreases-loop-rest
decreases-loop-rest l = length l.rest
