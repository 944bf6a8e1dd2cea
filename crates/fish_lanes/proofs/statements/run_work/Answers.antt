-- Each statement's item is one of the statement.
use Rattle.std.proofs.Common.{◌∙◌, List, Result, ℕ, ap, sym, subst}
use Rattle.std.specs.Prelude.{IfErr, IfOk}
use Rattle.fish_ingest.proofs.IngestionStart.{idle_law}
use Rattle.fish_lanes.proofs.Faults.{scan_stopped, stop_ok, stop_part}
use Rattle.fish_lanes.proofs.Parts.{explain_items, explain_part, scan_items}
use Rattle.fish_lanes.specs.within.Doing.{IsItem, IsStopped}
use Rattle.fish_lanes.specs.within.Pasts.{anywhere}
use Rattle.fish_lanes.specs.declared.statements.Stop.{Stop}
use Rattle.fish_lanes.specs.declared.work.Work.{Work}
use Rattle.fish_lanes.specs.declared.work.Work.TheVariants as work
use Rattle.fish_report.specs.declared.item.Item.{Item}
use Rattle.fish_rule.specs.Passes.{view}
use Rattle.fish_lanes.proofs.statements.run_work.Goals as goal

pub returns-in-Ingest-clause-part : goal.returns-in-Ingest-clause-part
returns-in-Ingest-clause-part g c =
    let v = view c.args.pass.now in
    let u = view c.ingest_file.new.pass in
    let w = work.Ingest c.in-Ingest.form c.in-Ingest.begin c.in-Ingest.name c.as_bytes.result.now in
    subst (λ (w : Work). IfErr c.or_stop.result (IsStopped v u w))
    (ap (λ (z : List ℕ). work.Ingest c.in-Ingest.form c.in-Ingest.begin c.in-Ingest.name z) c.as_bytes.ensures
    ∙ sym c.in-Ingest.is)
    (subst (λ (r : Result Item Stop). IfErr r (IsStopped v u w)) (sym c.or_stop.ensures)
    (stop_part v u w c.ingest_file.result c.ingest_file.ensures.part))

pub returns-in-Scan-clause-item : goal.returns-in-Scan-clause-item
returns-in-Scan-clause-item g c =
    let v = view c.args.pass.now in
    let u = view c.scan_range.new.pass in
    subst (λ (w : Work). IfOk c.scan_range.result (IsItem anywhere v u w)) (sym c.in-Scan.is)
    (scan_items anywhere v u c.in-Scan.ask c.scan_range.result c.requires.start.outside
    (idle_law v c.requires.pass.stands c.requires.start) c.scan_range.ensures.only c.scan_range.ensures.fits)

pub returns-in-Scan-clause-part : goal.returns-in-Scan-clause-part
returns-in-Scan-clause-part g c =
    let v = view c.args.pass.now in
    let u = view c.scan_range.new.pass in
    subst (λ (w : Work). IfErr c.scan_range.result (IsStopped v u w)) (sym c.in-Scan.is)
    (scan_stopped v u c.in-Scan.ask c.scan_range.result c.requires.start.outside
    (idle_law v c.requires.pass.stands c.requires.start) c.scan_range.ensures.only)

pub returns-in-Explain-clause-item : goal.returns-in-Explain-clause-item
returns-in-Explain-clause-item g c =
    let v = view c.args.pass.now in
    let u = view c.explain_range.new.pass in
    subst (λ (w : Work). IfOk c.or_stop-in-Explain.result (IsItem anywhere v u w)) (sym c.in-Explain.is)
    (subst (λ (r : Result Item Stop). IfOk r (IsItem anywhere v u (work.Explain c.in-Explain.ask))) (sym c.or_stop-in-Explain.ensures)
    (stop_ok c.explain_range.result (IsItem anywhere v u (work.Explain c.in-Explain.ask))
    (explain_items anywhere v u c.in-Explain.ask c.explain_range.result c.requires.start.outside
    (idle_law v c.requires.pass.stands c.requires.start) c.explain_range.ensures.only c.explain_range.ensures.fits)))

pub returns-in-Explain-clause-part : goal.returns-in-Explain-clause-part
returns-in-Explain-clause-part g c =
    let v = view c.args.pass.now in
    let u = view c.explain_range.new.pass in
    subst (λ (w : Work). IfErr c.or_stop-in-Explain.result (IsStopped v u w)) (sym c.in-Explain.is)
    (subst (λ (r : Result Item Stop). IfErr r (IsStopped v u (work.Explain c.in-Explain.ask))) (sym c.or_stop-in-Explain.ensures)
    (stop_part v u (work.Explain c.in-Explain.ask) c.explain_range.result
    (explain_part v u c.in-Explain.ask c.explain_range.result c.requires.start.outside
    (idle_law v c.requires.pass.stands c.requires.start) c.explain_range.ensures.only)))
