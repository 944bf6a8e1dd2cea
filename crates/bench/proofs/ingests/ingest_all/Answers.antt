-- Whatever became of a payload, the pass may start the next ingest.
use Rattle.bench.proofs.ingests.ingest_all.Goals as goal
use Rattle.fish_ingest.proofs.IngestionAfter.{goes_on}
use Rattle.fish_ingest.proofs.Passing.{on_both}
use Rattle.fish_rule.specs.Passes.{view}

pub loop-payload-preserved : goal.loop-payload-preserved
loop-payload-preserved c =
    let inv = c.loop-payload.invariant in
    let on = goes_on (view c.loop-payload.pass) (view c.ingest.new.pass) _ _ c.ingest.result inv.ready.start
    c.ingest.ensures.ingested c.ingest.ensures.refused in
    record {
      ready = record { of = c.ingest.ensures.pass; start = on.0; read = c.ingest.ensures.defs };
      on = on_both (view c.args.pass.now) (view c.loop-payload.pass) (view c.ingest.new.pass) inv.on on.1;
    }

pub returns-then-is_err-clause-on : goal.returns-then-is_err-clause-on
returns-then-is_err-clause-on c =
    let inv = c.loop-payload.invariant in
    let on = goes_on (view c.loop-payload.pass) (view c.ingest.new.pass) _ _ c.ingest.result inv.ready.start
    c.ingest.ensures.ingested c.ingest.ensures.refused in
    on_both (view c.args.pass.now) (view c.loop-payload.pass) (view c.ingest.new.pass) inv.on on.1
