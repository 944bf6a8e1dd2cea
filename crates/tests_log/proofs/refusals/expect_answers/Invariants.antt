-- The pass may store again.
use Rattle.fish_ingest.specs.Ingestion.{CanIngest}
use Rattle.tests_log.proofs.refusals.expect_answers.Given as goal

abbrev pub invariant-loop-payload : goal.invariant-loop-payload
invariant-loop-payload g l = CanIngest l.log l.pass l.defs
