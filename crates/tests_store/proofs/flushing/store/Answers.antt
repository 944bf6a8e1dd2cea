-- Whatever the answer, the pass may store again.
use Rattle.fish_ingest.proofs.IngestionAfter.{goes_on}
use Rattle.fish_rule.specs.Passes.{view}
use Rattle.fish_value.specs.declared.field.Form.TheVariants.{Json}
use Rattle.tests_store.proofs.flushing.store.Goals as goal

pub returns-clause-ready : goal.returns-clause-ready
returns-clause-ready c =
    let on = goes_on (view c.args.pass.now) (view c.ingest.new.pass) Json c.args.payload.now c.ingest.result
    c.requires.start c.ingest.ensures.ingested c.ingest.ensures.refused in
    record { of = c.ingest.ensures.pass; start = on.0; read = c.ingest.ensures.defs }

pub returns-clause-on : goal.returns-clause-on
returns-clause-on c =
    (goes_on (view c.args.pass.now) (view c.ingest.new.pass) Json c.args.payload.now c.ingest.result
    c.requires.start c.ingest.ensures.ingested c.ingest.ensures.refused).1
