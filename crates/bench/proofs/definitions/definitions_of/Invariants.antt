-- The definitions so far are those of the catalogue's active rows, and each is what its text is read as.
use Rattle.std.proofs.Common.{All}
use Rattle.fish_rule.specs.Keys.{IsWritten}
use Rattle.fish_rule.specs.within.Keys.{AreActive}
use Rattle.bench.proofs.definitions.definitions_of.Given as goal

abbrev pub invariant-loop-name : goal.invariant-loop-name
invariant-loop-name l = record {
  active : AreActive l.definitions.catalog l.definitions.defs.items;
  written : All IsWritten l.definitions.defs.items;
}
