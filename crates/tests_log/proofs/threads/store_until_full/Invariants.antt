-- The pass may store, and no more records were counted than payloads made.
use Rattle.std.specs.Prelude.{◌≤◌}
use Rattle.fish_ingest.specs.Ingestion.{CanIngest}
use Rattle.tests_log.proofs.threads.store_until_full.Given as goal

abbrev pub invariant-loop : goal.invariant-loop
invariant-loop l = CanIngest l.log l.pass l.defs × (l.place ≤ l.counter)
