-- The lane may store again.
use Rattle.fish_ingest.specs.Ingestion.{CanIngest}
use Rattle.tests_log.proofs.races.run_lane.Given as goal

abbrev pub invariant-loop-place : goal.invariant-loop-place
invariant-loop-place l = CanIngest l.log l.pass l.defs
