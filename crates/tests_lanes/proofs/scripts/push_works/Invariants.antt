-- The lane may do each of them.
use Rattle.std.proofs.Common.{All}
use Rattle.tests_lanes.specs.Blocks.{IsAllowed}
use Rattle.tests_lanes.proofs.scripts.push_works.Given as goal

abbrev pub invariant-loop-plain : goal.invariant-loop-plain
invariant-loop-plain l = All (IsAllowed l.fn.lane) l.works
