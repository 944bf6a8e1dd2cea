-- The lane may store again.
use Rattle.fish_ingest.specs.Ingestion.{CanIngest}
use Rattle.tests_store.proofs.beside.store_some.Given as goal

abbrev pub invariant-loop-stored : goal.invariant-loop-stored
invariant-loop-stored l = CanIngest l.log l.pass l.defs
