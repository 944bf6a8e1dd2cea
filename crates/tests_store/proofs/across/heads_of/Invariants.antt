-- The heads so far are of older records.
use Rattle.tests_store.specs.Heads.{AreOlder}
use Rattle.tests_store.proofs.across.heads_of.Given as goal

abbrev pub invariant-loop-bucket : goal.invariant-loop-bucket
invariant-loop-bucket l = AreOlder l.line l.bucket l.heads
