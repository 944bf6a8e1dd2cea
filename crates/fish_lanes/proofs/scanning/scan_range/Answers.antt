-- An answer, or why there is none, as an item.
use Rattle.std.proofs.Common.{Result, inr, sym, subst}
use Rattle.std.specs.Prelude.{IfOk}
use Rattle.fish_lanes.proofs.Fitting.{refused_fits, refused_item, scanned_fits}
use Rattle.fish_lanes.proofs.Faults.{stop_ok}
use Rattle.fish_lanes.proofs.Doings.{ok_then}
use Rattle.fish_lanes.specs.within.Doing.{IsFit}
use Rattle.fish_lanes.specs.within.Pasts.{anywhere}
use Rattle.fish_lanes.specs.declared.statements.Stop.{Stop}
use Rattle.fish_lanes.specs.declared.work.Work.TheVariants as work
use Rattle.fish_report.specs.declared.item.Item.{Item}
use Rattle.fish_report.specs.declared.item.Item.TheVariants as item
use Rattle.fish_rule.specs.Passes.{view}
use Rattle.fish_lanes.proofs.scanning.scan_range.Goals as goal

pub returns-in-Ok-clause-fits : goal.returns-in-Ok-clause-fits
returns-in-Ok-clause-fits c =
    let v = view c.args.pass.now in
    let u = view c.scan_with.new.pass in
    let fit = IsFit anywhere v u (work.Scan c.args.ask.now) in
    subst (λ (r : Result Item Stop). IfOk r fit) (sym c.or_stop.ensures)
    (stop_ok c.scanned.result fit
    (scanned_fits v u c.scan_with.new.defs.known c.args.ask.now c.in-Ok.answer c.version.result c.scanned.result
    c.in-Ok.ensures.answer c.in-Ok.ensures.loads c.version.ensures c.scanned.ensures))

pub returns-in-Err-clause-fits : goal.returns-in-Err-clause-fits
returns-in-Err-clause-fits c =
    let v = view c.args.pass.now in
    let u = view c.scan_with.new.pass in
    let fit = IsFit anywhere v u (work.Scan c.args.ask.now) in
    subst (λ (r : Result Item Stop). IfOk r fit) (sym c.or_stop-in-Err.ensures)
    (stop_ok c.refused.result fit (ok_then c.refused.result (λ x h. inr h)
    (refused_item v u c.args.ask.now c.version-in-Err.result c.in-Err.refusal item.ScanRefused c.refused.result
    (λ why is. refused_fits v u c.scan_with.new.defs.known c.args.ask.now c.in-Err.refusal c.version-in-Err.result why
    c.in-Err.ensures.refused is c.version-in-Err.ensures) c.refused.ensures)))

pub scan_with-requires-clause-has : goal.scan_with-requires-clause-has
scan_with-requires-clause-has c = record { of = c.requires.pass; read = c.requires.defs }
