-- The heads so far are of older records.
use Rattle.tests_log.specs.Heads.{AreOlder}
use Rattle.tests_log.proofs.bases.heads_of.Given as goal

abbrev pub invariant-loop-bucket : goal.invariant-loop-bucket
invariant-loop-bucket l = AreOlder l.line l.bucket l.heads
