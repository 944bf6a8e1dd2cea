-- The first name leads from the root, whose data is the record.
use Rattle.std.proofs.Common.{sym, subst}
use Rattle.fish_json.specs.Reading.{at_path}
use Rattle.fish_json.specs.Row.{row_contents}
use Rattle.fish_json.specs.within.Tape.{FindsData}
use Rattle.fish_json.proofs.Found.{path_none, path_on}
use Rattle.fish_json.proofs.Readings.{root-stands}
use Rattle.fish_json.proofs.row.JsonRow.find.Goals as goal

pub returns-in_err-step : goal.returns-in_err-step
unfolding row_contents
returns-in_err-step c =
    let row = c.args.self.now in
    let d = row_contents row in
    let at_root = root-stands c.root.result row.tape c.root.ensures.same row.reads in
    let here = c.in_err-step.ensures d at_root in
    let none = path_none c.args.path.now c.parts.result.1.now c.parts.result.0.now d c.parts.ensures here in
    subst (λ r. FindsData r (at_path c.args.path.now d)) (sym c.from_residual.ensures) none

pub returns : goal.returns
unfolding row_contents
returns c =
    let row = c.args.self.now in
    let d = row_contents row in
    let at_root = root-stands c.root.result row.tape c.root.ensures.same row.reads in
    let x = c.in_ok-step.ensures d at_root in
    path_on c.args.path.now c.parts.result.1.now c.parts.result.0.now d x.0 c.walk.result c.parts.ensures x.1
    (c.walk.ensures x.0 x.2)
