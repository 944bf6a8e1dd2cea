-- The record that was started is published.
use Rattle.std.proofs.Common.{ℕ, sym, subst}
use Rattle.fish_ingest.proofs.IngestionFinish.{has_ingested}
use Rattle.fish_ingest.specs.Ingestion.{HasIngested}
use Rattle.fish_rule.specs.Passes.{view}
use Rattle.fish_lanes.proofs.ingesting.ingest_at.Goals as goal

pub returns-clause-ingested : goal.returns-clause-ingested
returns-clause-ingested g c =
    let s = c.in_ok-pending.ensures.started in
    subst (λ (n : ℕ). HasIngested (view c.args.pass.now) c.args.form c.args.payload.now n (view c.finish.new.pass))
    (sym c.finish.ensures.number)
    (has_ingested (view c.args.pass.now) (view c.start.new.pass) (view c.finish.new.pass) c.args.form c.args.payload.now
    c.in_ok-pending.pending s (c.finish.ensures.view s.waits.flight s.waits.ready.flying))
