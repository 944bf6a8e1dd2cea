-- A line is a record or none, and a row that is given is one.
use Rattle.std.proofs.Common.{subst, sym}
use Rattle.std.specs.Prelude.{IfOk, MatchOption}
use Rattle.fish_json.specs.Lines as json
use Rattle.fish_lanes.proofs.Storing.{json_record, json_refused, taken}
use Rattle.fish_lanes.specs.within.Storing.{FindsTextFull, TakesText}
use Rattle.fish_lines.specs.Texts.{payload_in_text, text_form}
use Rattle.fish_lines.specs.declared.texts.RecordText.{RecordText}
use Rattle.fish_rule.specs.Passes.{view}
use Rattle.fish_value.specs.declared.field.Form.TheVariants.{Json}
use Rattle.fish_lanes.proofs.ingesting.ingest_text.Goals as goal

pub returns-in-Line-clause-takes : goal.returns-in-Line-clause-takes
returns-in-Line-clause-takes g c =
    let v = view c.args.pass.now in
    let u = view c.ingest_line.new.pass in
    let line = c.in-Line.line in
    let before = c.args.tally.now in
    let after = c.ingest_line.new.tally in
    subst (λ (x : RecordText). IfOk c.ingest_line.result (λ end. MatchOption end
    (TakesText v u (text_form x) (payload_in_text x) before after)
    (FindsTextFull v u (text_form x) (payload_in_text x) before after))) (sym c.in-Line.is)
    (taken c.ingest_line.result v u Json line.now (json.payload_of_line line.now) before after (json_record line.now)
    (json_refused line.now) c.ingest_line.ensures.takes)
