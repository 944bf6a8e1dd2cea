-- What was planned holds while the pieces are read on both sides of the base, and their rows are the answer's.
use Rattle.std.proofs.Common.{◌≡◌, ◌≤◌, List, Err, sym, ap, subst}
use Rattle.std.specs.Prelude.{IsErrOf}
use Rattle.fish_epoch.proofs.Reading.{defs_later}
use Rattle.fish_lang.specs.Definition.{definition_of}
use Rattle.fish_plan.specs.Pieces.{Fill}
use Rattle.fish_plan.specs.declared.pieces.Piece.{Piece}
use Rattle.fish_rule.specs.Passes.{view}
use Rattle.fish_rule.specs.Views.{Among}
use Rattle.fish_rule.specs.declared.view.Key.{Key}
use Rattle.fish_scan.proofs.Acrossing.{answered_with, broken_with, sound_of, unplanned_fault, unplanned_sound, unplanned_with}
use Rattle.fish_scan.proofs.Answering.{planned_readable, scans_both, scans_extends}
use Rattle.fish_scan.proofs.Carrying.{carried_last, stays_none}
use Rattle.fish_scan.proofs.OlderReads.{err_as, err_same}
use Rattle.fish_scan.proofs.PlannedScans.{explained_later, planned_fills}
use Rattle.fish_scan.specs.Across.{IsAnswerWith, IsRefusedWith, IsUndamagedScan}
use Rattle.fish_scan.specs.within.Across.{HasReadAcross}
use Rattle.fish_scan.specs.within.Pieces.{AreReadable}
use Rattle.fish_scan.specs.Scans.{IsExplained}
use Rattle.fish_scan.specs.declared.ask.Answer.{Answer}
use Rattle.fish_scan.specs.declared.refusal.ScanRefusal.{ScanRefusal}
use Rattle.fish_scan.specs.declared.refusal.ScanRefusal.TheVariants as refusal
use Rattle.fish_value.specs.declared.row.Row.{Row}
use Rattle.fish_scan.proofs.across.scan_with.Goals as goal

-- ---- refused before anything is read

pub returns-in_err-planned-clause-cold : goal.returns-in_err-planned-clause-cold
returns-in_err-planned-clause-cold g c =
    stays_none g.D.Disk c.args.cold.now c.args.disk.now

pub returns-in_err-planned-clause-kept : goal.returns-in_err-planned-clause-kept
returns-in_err-planned-clause-kept g c h =
    carried_last g.D.Disk c.args.cold.now c.args.cold.now
    c.args.disk.now c.args.disk.now
    (stays_none g.D.Disk c.args.cold.now c.args.disk.now) h

pub returns-in_err-planned-clause-refused : goal.returns-in_err-planned-clause-refused
returns-in_err-planned-clause-refused g c =
    err_as c.from_residual.result (IsRefusedWith (view c.args.pass.now) (view c.plan_scan.new.pass) c.plan_scan.new.known c.args.ask.now) _
    c.from_residual.ensures.1
    (unplanned_with (view c.args.pass.now) (view c.plan_scan.new.pass) c.plan_scan.new.known c.args.ask.now _
    c.in_err-planned.ensures.refused)

-- a refusal that is a fault is one
is_fault : {T : Type 0} (e : ScanRefusal) → IsErrOf {T = T} (Err e) refusal.DiskFault → e ≡ refusal.DiskFault
is_fault e h = cc

pub returns-in_err-planned-clause-fault : goal.returns-in_err-planned-clause-fault
returns-in_err-planned-clause-fault g c failed =
    absurd (unplanned_fault (view c.args.pass.now) (view c.plan_scan.new.pass) c.plan_scan.new.known c.args.ask.now _
    c.in_err-planned.ensures.refused
    (is_fault {T = Answer} _ (err_same c.from_residual.result _ refusal.DiskFault c.from_residual.ensures.1 failed)))

pub returns-in_err-planned-clause-whole : goal.returns-in_err-planned-clause-whole
returns-in_err-planned-clause-whole g c h =
    err_as c.from_residual.result IsUndamagedScan _ c.from_residual.ensures.1
    (unplanned_sound (view c.args.pass.now) (view c.plan_scan.new.pass) c.plan_scan.new.known c.args.ask.now _
    c.in_err-planned.ensures.refused)

-- ---- what is read

pub read_across-read-requires-clause-fill : goal.read_across-read-requires-clause-fill
read_across-read-requires-clause-fill g c =
    let p = c.in_ok-planned.planned in
    subst (λ (z : List Piece). Fill z p.query.reach.from p.query.reach.to) (sym c.pieces.ensures)
    (planned_fills (view c.args.pass.now) (view c.plan_scan.new.pass) c.plan_scan.new.known c.args.ask.now p
    c.in_ok-planned.ensures.planned)

pub read_across-read-requires-clause-readable : goal.read_across-read-requires-clause-readable
read_across-read-requires-clause-readable g c =
    let p = c.in_ok-planned.planned in
    subst (AreReadable (view c.plan_scan.new.pass) (definition_of p.query.def) p.query.reach) (sym c.pieces.ensures)
    (planned_readable (view c.args.pass.now) (view c.plan_scan.new.pass) c.plan_scan.new.known c.args.ask.now p
    c.in_ok-planned.ensures.planned)

pub returns-in-Ok-clause-only : goal.returns-in-Ok-clause-only
returns-in-Ok-clause-only g c = scans_both _ _ _ c.plan_scan.ensures.only.scans (scans_extends _ _ c.read_across-read.ensures.extends)

pub returns-in-Ok-clause-defs : goal.returns-in-Ok-clause-defs
returns-in-Ok-clause-defs g c = defs_later _ _ c.plan_scan.new.known c.read_across-read.ensures.extends.learns c.plan_scan.ensures.known

-- whatever the disk tells, the range and the plan are those of what is asked
pub returns-in-Ok-clause-explained : goal.returns-in-Ok-clause-explained
returns-in-Ok-clause-explained g c =
    let v = view c.args.pass.now in
    let u = view c.read_across-read.new.pass in
    subst (λ (z : Answer). IsExplained v u c.plan_scan.new.known c.args.ask.now z.from z.to z.opens z.plan) (sym c.answer_of.ensures)
    (explained_later v (view c.plan_scan.new.pass) u c.plan_scan.new.known c.args.ask.now c.in_ok-planned.planned
    (scans_extends _ _ c.read_across-read.ensures.extends) c.in_ok-planned.ensures.planned)

pub returns-in-Ok-clause-opened : goal.returns-in-Ok-clause-opened
returns-in-Ok-clause-opened g c n among =
    subst (λ (z : Key). z.number ≤ n) (sym c.read_across-read.ensures.extends.learns.about)
    (c.in_ok-planned.ensures.planned.reach.opened n (subst (λ (z : Answer). Among n z.opens) c.answer_of.ensures among))

pub returns-in-Ok-clause-answer : goal.returns-in-Ok-clause-answer
returns-in-Ok-clause-answer g c h =
    let p = c.in_ok-planned.planned in
    let v = view c.args.pass.now in
    let m = view c.plan_scan.new.pass in
    let u = view c.read_across-read.new.pass in
    subst (λ (z : Answer). IsAnswerWith h v u c.plan_scan.new.known c.args.ask.now z c.args.parses.now c.read_across-read.new.parses
    c.args.loads.now c.read_across-read.new.loads) (sym c.answer_of.ensures)
    (answered_with h v m u c.plan_scan.new.known c.args.ask.now p c.read_across-read.new.rows c.args.parses.now
    c.read_across-read.new.parses c.args.loads.now c.read_across-read.new.loads c.plan_scan.ensures.pass.about
    (scans_extends _ _ c.read_across-read.ensures.extends) c.plan_scan.ensures.only.loads c.in_ok-planned.ensures.planned
    (subst (λ (z : List Piece × List Row). HasReadAcross h m u p.query z.0 z.1 c.read_across-read.new.rows c.args.parses.now
    c.read_across-read.new.parses c.args.loads.now c.read_across-read.new.loads) (λ i. (c.pieces.ensures i, c.new-rows.ensures i))
    (c.in-Ok.ensures.read h)))

pub returns-in-Ok-clause-kept : goal.returns-in-Ok-clause-kept
returns-in-Ok-clause-kept g c h =
    carried_last g.D.Disk c.args.cold.now
    c.read_across-read.new.cold c.args.disk.now c.read_across-read.new.disk c.read_across-read.ensures.cold h

-- ---- refused on the way

pub returns-in-Err-clause-only : goal.returns-in-Err-clause-only
returns-in-Err-clause-only g c = scans_both _ _ _ c.plan_scan.ensures.only.scans (scans_extends _ _ c.read_across-read.ensures.extends)

pub returns-in-Err-clause-defs : goal.returns-in-Err-clause-defs
returns-in-Err-clause-defs g c = defs_later _ _ c.plan_scan.new.known c.read_across-read.ensures.extends.learns c.plan_scan.ensures.known

pub returns-in-Err-clause-kept : goal.returns-in-Err-clause-kept
returns-in-Err-clause-kept g c h =
    carried_last g.D.Disk c.args.cold.now
    c.read_across-read.new.cold c.args.disk.now c.read_across-read.new.disk c.read_across-read.ensures.cold h

pub returns-in-Err-clause-refused : goal.returns-in-Err-clause-refused
returns-in-Err-clause-refused g c =
    let v = view c.args.pass.now in
    let u = view c.read_across-read.new.pass in
    subst (IsRefusedWith v u c.plan_scan.new.known c.args.ask.now) (sym c.from.ensures)
    (broken_with v (view c.plan_scan.new.pass) u c.plan_scan.new.known c.args.ask.now c.in_ok-planned.planned c.args.log.now.key.number
    c.in-Err.refusal (scans_extends _ _ c.read_across-read.ensures.extends) c.in_ok-planned.ensures.planned
    (sym (ap (λ (z : Key). z.number) c.read_across-read.ensures.pass.about)) c.in-Err.ensures.damage)

pub returns-in-Err-clause-whole : goal.returns-in-Err-clause-whole
returns-in-Err-clause-whole g c h =
    subst IsUndamagedScan (sym c.from.ensures) (sound_of c.in-Err.refusal (c.in-Err.ensures.whole h))
