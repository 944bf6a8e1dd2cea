-- What was planned is so, and a range that begins below the table was planned all the same.
use Rattle.std.proofs.Common.{◌≡◌, Ok, Err, Result, sym, ap, ◌∙◌, subst}
use Rattle.std.specs.Prelude.{IfOk}
use Rattle.fish_rule.specs.Passes.{view}
use Rattle.fish_rule.specs.declared.view.Key.{Key}
use Rattle.fish_scan.proofs.Answering.{err_gives}
use Rattle.fish_scan.proofs.PlannedScans.{cold_refused, unplanned_refused}
use Rattle.fish_scan.specs.Scans.{IsRefused}
use Rattle.fish_scan.specs.within.Scans.{IsCold, IsPlannedScan}
use Rattle.fish_scan.specs.declared.refusal.ScanRefusal.{ScanRefusal}
use Rattle.fish_scan.specs.declared.scanning.PlannedScan.{PlannedScan}
use Rattle.fish_scan.proofs.scanning.plan_scan_in_table.Goals as goal

-- what is said of what was given
of_same : (P : PlannedScan → Type 0) (p : PlannedScan) (r : Result PlannedScan ScanRefusal) → IfOk r (λ q. q ≡ p) → P p → IfOk r P
of_same P p (Ok q) same h = subst P (sym same) h
of_same P p (Err e) same h = tt

pub returns-in-Ok-clause-planned : goal.returns-in-Ok-clause-planned
returns-in-Ok-clause-planned c =
    of_same (IsPlannedScan (view c.args.pass.now) (view c.plan_scan.new.pass) c.plan_scan.new.known c.args.ask.now) c.in-Ok.planned
    c.in_table.result c.in_table.ensures.same c.in-Ok.ensures.planned

pub returns-in-Ok-clause-refused : goal.returns-in-Ok-clause-refused
returns-in-Ok-clause-refused c =
    let v = view c.args.pass.now in
    let t = view c.plan_scan.new.pass in
    err_gives (IsCold c.base.result.number c.in-Ok.planned.query.reach.from) (IsRefused v t c.plan_scan.new.known c.args.ask.now)
    c.in_table.result c.in_table.ensures.refused (λ e cold. cold_refused v t c.plan_scan.new.known c.args.ask.now
    c.base.result.number c.in-Ok.planned e (c.base.ensures.0 ∙ sym (ap (λ (z : Key). z.number) c.plan_scan.ensures.pass.about))
    c.in-Ok.ensures.planned cold)

pub returns-in-Err-clause-refused : goal.returns-in-Err-clause-refused
returns-in-Err-clause-refused c = unplanned_refused (view c.args.pass.now) (view c.plan_scan.new.pass) c.plan_scan.new.known
    c.args.ask.now c.in-Err.refusal c.in-Err.ensures.refused
