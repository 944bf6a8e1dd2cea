-- The pass stays one of the log, and older records stay below its base.
use Rattle.fish_rule.specs.Passes.{IsPassOf}
use Rattle.fish_scan.specs.Colder.{IsBelow}
use Rattle.bench.proofs.older.scan_opened.Given as goal

abbrev pub invariant-loop-kind : goal.invariant-loop-kind
invariant-loop-kind g l = record {
  of : IsPassOf l.log l.pass;
  below : IsBelow l.log.key l.cold;
}

abbrev pub invariant-loop-kind-2 : goal.invariant-loop-kind-2
invariant-loop-kind-2 g l = record {
  of : IsPassOf l.log l.pass;
  below : IsBelow l.log.key l.cold;
}
