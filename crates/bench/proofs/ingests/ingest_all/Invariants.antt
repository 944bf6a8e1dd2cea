-- The pass may start the next ingest.
use Rattle.bench.proofs.ingests.ingest_all.Given as goal
use Rattle.fish_ingest.specs.Ingestion.{CanIngest}
use Rattle.fish_ingest.specs.Passing.{OnlyIngests}
use Rattle.fish_rule.specs.Passes.{view}

abbrev pub invariant-loop-payload : goal.invariant-loop-payload
invariant-loop-payload l = record {
  ready : CanIngest l.log l.pass l.defs;
  on : OnlyIngests (view l.fn.pass) (view l.pass);
}
