-- A plan, or why there is none, as an item.
use Rattle.std.proofs.Common.{inr}
use Rattle.fish_lanes.proofs.Fitting.{planned_fits, refused_fits, refused_item}
use Rattle.fish_lanes.proofs.Doings.{ok_then}
use Rattle.fish_report.specs.declared.item.Item.TheVariants as item
use Rattle.fish_rule.specs.Passes.{view}
use Rattle.fish_scan.proofs.PlannedScans.{unplanned_refused}
use Rattle.fish_lanes.proofs.scanning.explain_range.Goals as goal

pub returns-in-Ok-clause-fits : goal.returns-in-Ok-clause-fits
returns-in-Ok-clause-fits c = planned_fits (view c.args.pass.now) (view c.explain.new.pass) c.explain.new.defs.known c.args.ask.now
    c.in-Ok.explained c.version.result c.planned.result c.in-Ok.ensures.explained c.version.ensures c.planned.ensures

pub returns-in-Err-clause-fits : goal.returns-in-Err-clause-fits
returns-in-Err-clause-fits c =
    let v = view c.args.pass.now in
    let u = view c.explain.new.pass in
    ok_then c.unplanned.result (λ x h. inr h)
    (refused_item v u c.args.ask.now c.version-in-Err.result c.in-Err.refusal item.ExplainRefused c.unplanned.result
    (λ why is. refused_fits v u c.explain.new.defs.known c.args.ask.now c.in-Err.refusal c.version-in-Err.result why
    (unplanned_refused _ _ _ _ _ c.in-Err.ensures.refused) is c.version-in-Err.ensures) c.unplanned.ensures)
