-- Where the entries are proper, so are those that are left, and the entry is apart from all where it is from these.
use Rattle.std.proofs.Common.{length}
use Rattle.std.specs.Prelude.{◌↔◌}
use Rattle.fish_layout.specs.Body.{AreProperKeys, IsApart}
use Rattle.fish_layout.proofs.proper.is_apart.Given as goal

abbrev pub invariant-loop-rest : goal.invariant-loop-rest
invariant-loop-rest l =
    record {
      proper : AreProperKeys l.key.id l.others → AreProperKeys l.key.id l.rest;
      apart : IsApart l.key l.rest ↔ IsApart l.key l.others;
    }

abbrev pub decreases-loop-rest : goal.decreases-loop-rest
decreases-loop-rest l = length l.rest
