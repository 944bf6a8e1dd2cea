-- Whatever the answer, the lane may store again.
use Rattle.std.proofs.Common.{ap}
use Rattle.fish_ingest.proofs.IngestionAfter.{goes_on}
use Rattle.fish_rule.specs.Passes.{view}
use Rattle.fish_rule.specs.declared.view.View.{View}
use Rattle.tests_log.proofs.lanes.store_as.Goals as goal

pub returns-clause-ready : goal.returns-clause-ready
returns-clause-ready c =
    let on = goes_on (view c.args.pass.now) (view c.ingest.new.pass) c.args.form c.args.payload.now c.ingest.result
    c.requires.start c.ingest.ensures.ingested c.ingest.ensures.refused in
    record { of = c.ingest.ensures.pass; start = on.0; read = c.ingest.ensures.defs }

pub returns-clause-lane : goal.returns-clause-lane
returns-clause-lane c =
    ap (λ (z : View). z.lane) (goes_on (view c.args.pass.now) (view c.ingest.new.pass) c.args.form c.args.payload.now
    c.ingest.result c.requires.start c.ingest.ensures.ingested c.ingest.ensures.refused).1.frame

pub returns-clause-out : goal.returns-clause-out
returns-clause-out c =
    ap (λ (z : View). z.out) (goes_on (view c.args.pass.now) (view c.ingest.new.pass) c.args.form c.args.payload.now
    c.ingest.result c.requires.start c.ingest.ensures.ingested c.ingest.ensures.refused).1.frame

pub returns-clause-rows : goal.returns-clause-rows
returns-clause-rows c =
    ap (λ (z : View). z.rows) (goes_on (view c.args.pass.now) (view c.ingest.new.pass) c.args.form c.args.payload.now
    c.ingest.result c.requires.start c.ingest.ensures.ingested c.ingest.ensures.refused).1.frame

pub returns-clause-control_words : goal.returns-clause-control_words
returns-clause-control_words c =
    ap (λ (z : View). z.control_words) (goes_on (view c.args.pass.now) (view c.ingest.new.pass) c.args.form c.args.payload.now
    c.ingest.result c.requires.start c.ingest.ensures.ingested c.ingest.ensures.refused).1.frame

pub returns-clause-round : goal.returns-clause-round
returns-clause-round c =
    ap (λ (z : View). z.round) (goes_on (view c.args.pass.now) (view c.ingest.new.pass) c.args.form c.args.payload.now
    c.ingest.result c.requires.start c.ingest.ensures.ingested c.ingest.ensures.refused).1.frame

pub returns-clause-learns : goal.returns-clause-learns
returns-clause-learns c =
    (goes_on (view c.args.pass.now) (view c.ingest.new.pass) c.args.form c.args.payload.now
    c.ingest.result c.requires.start c.ingest.ensures.ingested c.ingest.ensures.refused).1.learns
