-- The definitions so far are those of the rows, and each is what its text is read as.
use Rattle.std.proofs.Common.{All}
use Rattle.fish_rule.specs.Keys.{IsWritten}
use Rattle.fish_rule.specs.within.Keys.{AreActive}
use Rattle.tests_log.proofs.openings.add_defs.Given as goal

abbrev pub invariant-loop-source : goal.invariant-loop-source
invariant-loop-source l = record {
  active : AreActive l.catalog l.defs.items;
  written : All IsWritten l.defs.items;
}
