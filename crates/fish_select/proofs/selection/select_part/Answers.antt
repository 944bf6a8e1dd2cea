-- What a part adds is what its lines or rows add.
use Rattle.std.proofs.Common.{◌≡◌, ◌∙◌, ap, subst, sym}
use Rattle.std.proofs.lemmas.Result.{on_ok_weaker}
use Rattle.fish_lang.specs.Definition.{definition_of}
use Rattle.fish_lines.specs.Resuming.{outcomes_from}
use Rattle.fish_value.specs.declared.field.Form.{Form}
use Rattle.fish_value.specs.declared.field.Form.TheVariants.{Csv, Json}
use Rattle.fish_select.proofs.SelectionLemmas.{found_more}
use Rattle.fish_select.specs.within.Found.{with_outcomes}
use Rattle.fish_select.specs.within.Selection.{is_selected}
use Rattle.fish_select.proofs.selection.select_part.Goals as goal

pub returns-in-Json-clause-found : goal.returns-in-Json-clause-found
returns-in-Json-clause-found c =
    let q = c.args.query.now in
    let d = definition_of q.def.now in
    let t = c.args.found.now in
    let u = c.add_lines.new.found in
    on_ok_weaker c.add_lines.result
    (λ added os h. found_more d q.value.now q.form os (outcomes_from q.form c.args.begin c.args.part.now) t u h
    (subst (λ (f : Form). u ≡ with_outcomes (is_selected d q.value.now f) t (outcomes_from f c.args.begin c.args.part.now))
    (sym c.in-Json.is)
    (added ∙ ap (with_outcomes (is_selected d q.value.now Json) t) c.lines_from-lines.ensures.lines)))
    c.add_lines.ensures.added

pub returns-in_ok-rows-in-Csv-clause-found : goal.returns-in_ok-rows-in-Csv-clause-found
returns-in_ok-rows-in-Csv-clause-found c =
    let q = c.args.query.now in
    let d = definition_of q.def.now in
    let t = c.args.found.now in
    let u = c.add_rows-added.new.found in
    on_ok_weaker c.add_rows-added.result
    (λ added os h. found_more d q.value.now q.form os (outcomes_from q.form c.args.begin c.args.part.now) t u h
    (subst (λ (f : Form). u ≡ with_outcomes (is_selected d q.value.now f) t (outcomes_from f c.args.begin c.args.part.now))
    (sym c.in-Csv.is)
    (added ∙ ap (with_outcomes (is_selected d q.value.now Csv) t) c.in_ok-rows-in-Csv.ensures.rows)))
    c.add_rows-added.ensures.added
