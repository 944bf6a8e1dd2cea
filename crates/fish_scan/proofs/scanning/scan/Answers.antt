-- What was planned holds while the pieces are read, and their rows are the answer's.
use Rattle.std.proofs.Common.{ℕ, ◌≤◌, List, sym, subst}
use Rattle.fish_epoch.proofs.Reading.{defs_later}
use Rattle.fish_lang.specs.Definition.{definition_of}
use Rattle.fish_rule.specs.Passes.{view}
use Rattle.fish_scan.proofs.Answering.{adds_first, planned_readable, scans_both, scans_extends}
use Rattle.fish_scan.proofs.PlannedScans.{all_in, answer_found, planned_fills}
use Rattle.fish_scan.proofs.Working.{work_done}
use Rattle.fish_plan.specs.Pieces.{Fill}
use Rattle.fish_plan.specs.declared.pieces.Piece.{Piece}
use Rattle.fish_rule.specs.declared.view.Key.{Key}
use Rattle.fish_scan.specs.Parses.{HasParsed}
use Rattle.fish_scan.specs.within.Pieces.{AreReadable}
use Rattle.fish_scan.specs.within.Reading.{Adds}
use Rattle.fish_scan.specs.Scans.{IsAnswer}
use Rattle.fish_scan.specs.Work.{IsWork}
use Rattle.fish_scan.specs.declared.ask.Answer.{Answer}
use Rattle.fish_scan.proofs.scanning.scan.Goals as goal

pub read_pieces-read-requires-clause-fill : goal.read_pieces-read-requires-clause-fill
read_pieces-read-requires-clause-fill g c =
    let p = c.in_ok-planned.planned in
    subst (λ (z : List Piece × ℕ). Fill z.0 z.1 p.query.reach.to)
    (λ i. (
      sym c.pieces.ensures i,
      sym (all_in c.args.log.now.key _ p.query.reach c.in_ok-planned.ensures.planned.reach.range.first_is
          c.in_ok-planned.ensures.base) i,
    ))
    (planned_fills (view c.args.pass.now) (view c.plan_scan_in_table.new.pass) c.plan_scan_in_table.new.known c.args.ask.now p
    c.in_ok-planned.ensures.planned)

pub read_pieces-read-requires-clause-readable : goal.read_pieces-read-requires-clause-readable
read_pieces-read-requires-clause-readable g c =
    let p = c.in_ok-planned.planned in
    subst (AreReadable (view c.plan_scan_in_table.new.pass) (definition_of p.query.def) p.query.reach) (sym c.pieces.ensures)
    (planned_readable (view c.args.pass.now) (view c.plan_scan_in_table.new.pass) c.plan_scan_in_table.new.known c.args.ask.now p
    c.in_ok-planned.ensures.planned)

pub returns-in-Ok-clause-only : goal.returns-in-Ok-clause-only
returns-in-Ok-clause-only g c =
    scans_both _ _ _ c.plan_scan_in_table.ensures.only.scans (scans_extends _ _ c.read_pieces-read.ensures.extends)

pub returns-in-Ok-clause-defs : goal.returns-in-Ok-clause-defs
returns-in-Ok-clause-defs g c = defs_later _ _ c.plan_scan_in_table.new.known c.read_pieces-read.ensures.extends.learns
    c.plan_scan_in_table.ensures.known

pub returns-in-Ok-clause-answer : goal.returns-in-Ok-clause-answer
returns-in-Ok-clause-answer g c =
    let p = c.in_ok-planned.planned in
    let u = view c.read_pieces-read.new.pass in
    let base = subst (λ (z : Key). z.number ≤ p.query.reach.from) (sym c.plan_scan_in_table.ensures.pass.about)
    c.in_ok-planned.ensures.base in
    let first = all_in c.args.log.now.key _ p.query.reach c.in_ok-planned.ensures.planned.reach.range.first_is
    c.in_ok-planned.ensures.base in
    subst (IsAnswer (view c.args.pass.now) u c.plan_scan_in_table.new.known c.args.ask.now) (sym c.answer_of.ensures)
    (answer_found (view c.args.pass.now) (view c.plan_scan_in_table.new.pass) u c.plan_scan_in_table.new.known c.args.ask.now p
    c.read_pieces-read.new.rows (scans_extends _ _ c.read_pieces-read.ensures.extends) c.in_ok-planned.ensures.planned base
    (adds_first u (definition_of p.query.def) p.query.value c.args.ask.now.value p.query.reach.from p.query.reach.to
    p.query.reach.opens c.new-rows.result c.read_pieces-read.new.rows c.new-rows.ensures
    c.in_ok-planned.ensures.planned.value
    (subst (λ (z : ℕ). Adds u (definition_of p.query.def) p.query.value z p.query.reach.to p.query.reach.opens
    c.new-rows.result c.read_pieces-read.new.rows) first c.in-Ok.ensures.rows)))

pub returns-in-Err-clause-only : goal.returns-in-Err-clause-only
returns-in-Err-clause-only g c =
    scans_both _ _ _ c.plan_scan_in_table.ensures.only.scans (scans_extends _ _ c.read_pieces-read.ensures.extends)

pub returns-in-Err-clause-defs : goal.returns-in-Err-clause-defs
returns-in-Err-clause-defs g c = defs_later _ _ c.plan_scan_in_table.new.known c.read_pieces-read.ensures.extends.learns
    c.plan_scan_in_table.ensures.known

-- nothing of the log was loaded before the pieces were read
pub returns-in-Ok-clause-loads : goal.returns-in-Ok-clause-loads
returns-in-Ok-clause-loads g c =
    let p = c.in_ok-planned.planned in
    let u = view c.read_pieces-read.new.pass in
    subst (λ (z : Answer). IsWork (view c.args.pass.now) u c.args.ask.now.value z c.args.loads.now
    c.read_pieces-read.new.loads) (sym c.answer_of.ensures)
    (work_done (view c.args.pass.now) (view c.plan_scan_in_table.new.pass) u p.query.value c.args.ask.now.value p.query.reach.from
    p.query.reach.to p.query.reach.opens c.read_pieces-read.new.rows c.pieces.result.now p.plan c.args.loads.now
    c.read_pieces-read.new.loads c.plan_scan_in_table.ensures.only.loads c.in_ok-planned.ensures.planned.value c.pieces.ensures
    c.in-Ok.ensures.loads)

-- the pieces that were read are those of the plan
pub returns-in-Ok-clause-parses : goal.returns-in-Ok-clause-parses
returns-in-Ok-clause-parses g c =
    let p = c.in_ok-planned.planned in
    let u = view c.read_pieces-read.new.pass in
    subst (λ (z : Answer). HasParsed u z.opens z.plan z.from z.to c.args.parses.now c.read_pieces-read.new.parses)
    (sym c.answer_of.ensures)
    (subst (λ (z : List Piece × ℕ). HasParsed u p.query.reach.opens z.0 z.1 p.query.reach.to c.args.parses.now
    c.read_pieces-read.new.parses) (λ i. (
      c.pieces.ensures i,
      all_in c.args.log.now.key _ p.query.reach
          c.in_ok-planned.ensures.planned.reach.range.first_is c.in_ok-planned.ensures.base i,
    )) c.in-Ok.ensures.parses)
