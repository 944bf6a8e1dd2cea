-- What was planned is what is told.
use Rattle.std.proofs.Common.{sym, subst}
use Rattle.fish_rule.proofs.laws.Learning.{extends_self}
use Rattle.fish_rule.specs.Passes.{view}
use Rattle.fish_scan.proofs.Answering.{scans_extends}
use Rattle.fish_scan.proofs.PlannedScans.{explained_later}
use Rattle.fish_scan.specs.Scans.{IsExplained}
use Rattle.fish_scan.specs.declared.ask.Explained.{Explained}
use Rattle.fish_scan.proofs.scanning.explain.Goals as goal

pub returns-clause-explained : goal.returns-clause-explained
returns-clause-explained c =
    let v = view c.args.pass.now in
    let u = view c.plan_scan.new.pass in
    let reach = c.in_ok-planned.planned.query.reach in (
      reach.opens,
      subst (λ (z : Explained). IsExplained v u c.plan_scan.new.known c.args.ask.now z.from z.to reach.opens z.plan)
          (sym c.explained_of.ensures)
          (explained_later v u u c.plan_scan.new.known c.args.ask.now c.in_ok-planned.planned
          (scans_extends _ _ (extends_self u)) c.in_ok-planned.ensures.planned),
    )
