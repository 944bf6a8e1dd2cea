-- Each definition so far is what its text is read as.
use Rattle.std.proofs.Common.{All}
use Rattle.fish_rule.specs.Keys.{IsWritten}
use Rattle.tests_log.proofs.payloads.push_defs.Given as goal

abbrev pub invariant-loop-id : goal.invariant-loop-id
invariant-loop-id l = All IsWritten l.defs.items
