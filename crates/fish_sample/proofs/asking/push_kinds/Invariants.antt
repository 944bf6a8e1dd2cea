-- The scans of the kinds so far come after the others.
use Rattle.std.proofs.Common.{◌≡◌, ◌++◌}
use Rattle.fish_sample.specs.within.Works.{kind_scans}
use Rattle.fish_sample.proofs.asking.push_kinds.Given as goal

abbrev pub invariant-loop-kind : goal.invariant-loop-kind
invariant-loop-kind l = l.works ≡ l.fn.works ++ kind_scans l.kind
