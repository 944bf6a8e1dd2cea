-- What is stored of the texts is stored of the file.
use Rattle.std.proofs.Common.{ℕ, List, Option, subst}
use Rattle.std.specs.Prelude.{IfErr, IfOk}
use Rattle.fish_ingest.proofs.IngestionStart.{idle_law}
use Rattle.fish_lanes.proofs.Storing.{stored_none}
use Rattle.fish_lanes.specs.within.Storing.{EndsWith, IsPartStored}
use Rattle.fish_lines.specs.Resuming.{outcomes_from}
use Rattle.fish_rule.specs.Passes.{view}
use Rattle.fish_value.specs.declared.field.Form.{Form}
use Rattle.fish_lanes.proofs.ingesting.ingest_records.Goals as goal

pub returns-in-Err-clause-part : goal.returns-in-Err-clause-part
returns-in-Err-clause-part g c =
    let v = view c.args.pass.now in
    let outs = outcomes_from c.args.form c.args.begin c.args.file.now in (
      outs,
      c.args.tally.now,
      stored_none v c.args.form outs c.args.tally.now c.requires.can.start.outside
          (idle_law v c.requires.can.of.stands c.requires.can.start) c.requires.none,
    )

pub returns-clause-ends : goal.returns-clause-ends
returns-clause-ends g c =
    let e = c.in-Ok.ensures in
    subst (λ (z : Form × List (Option (List ℕ))). IfOk c.ingest_texts-ended.result
    (EndsWith (view c.args.pass.now) (view c.ingest_texts-ended.new.pass) z.0 z.1 c.ingest_texts-ended.new.tally))
    (λ i. (e.form i, e.texts i)) c.ingest_texts-ended.ensures.ends

pub returns-clause-part : goal.returns-clause-part
returns-clause-part g c =
    let e = c.in-Ok.ensures in
    subst (λ (z : Form × List (Option (List ℕ))). IfErr c.ingest_texts-ended.result
    (λ _. IsPartStored (view c.args.pass.now) (view c.ingest_texts-ended.new.pass) z.0 z.1))
    (λ i. (e.form i, e.texts i)) c.ingest_texts-ended.ensures.part
