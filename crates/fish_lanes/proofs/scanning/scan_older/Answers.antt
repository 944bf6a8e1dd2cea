-- An answer after what the disk has before the table, or why there is none, as an item; or a fault of the file.
use Rattle.std.proofs.Common.{◌∙◌, Result, inr, sym, subst}
use Rattle.std.specs.Prelude.{IfErr, IfOk}
use Rattle.fish_lanes.proofs.Fitting.{older_fits, refused_item, refused_older}
use Rattle.fish_lanes.proofs.Faults.{memory_ok, or_memory_stops, refusal_stops}
use Rattle.fish_lanes.proofs.Doings.{ok_then}
use Rattle.fish_lanes.specs.within.Doing.{IsAnswerHere, IsExplainedAnswer, IsFit}
use Rattle.fish_lanes.specs.within.Parts.{StopsBy}
use Rattle.fish_lanes.specs.within.Pasts.{IsHere}
use Rattle.fish_lanes.specs.declared.work.LaneFault.{LaneFault}
use Rattle.fish_lanes.specs.declared.work.Work.TheVariants as work
use Rattle.fish_report.specs.declared.item.Item.{Item}
use Rattle.fish_report.specs.declared.item.Item.TheVariants as item
use Rattle.fish_rule.specs.Passes.{view}
use Rattle.fish_scan.specs.Across.{IsRefusedWith, IsUndamagedScan}
use Rattle.fish_scan.specs.Colder.{IsScanFault}
use Rattle.fish_scan.specs.declared.ask.Answer.{Answer}
use Rattle.fish_scan.specs.declared.refusal.ScanRefusal.{ScanRefusal}
use Rattle.fish_lanes.proofs.scanning.scan_older.Goals as goal

pub returns-in-Ok-clause-fits : goal.returns-in-Ok-clause-fits
returns-in-Ok-clause-fits g c =
    let v = view c.args.pass.now in
    let u = view c.older_with.new.pass in
    let content = g.D.Disk.content c.older_with.new.disk in
    let k = c.args.log.now.key in
    let cold = c.args.file.now.cold in
    let fit = IsFit (IsHere content k cold) v u (work.Scan c.args.ask.now) in
    let scans = c.older_with.ensures.scans in
    let explained = subst (λ (z : Result Answer ScanRefusal). IfOk z (IsExplainedAnswer v u c.older_with.new.defs.known c.args.ask.now))
    c.in-Ok.is scans.explained in
    let answer = subst (λ (z : Result Answer ScanRefusal). IfOk z (IsAnswerHere content k cold v u c.older_with.new.defs.known
    c.args.ask.now)) c.in-Ok.is scans.answer in
    subst (λ (r : Result Item LaneFault). IfOk r fit) (sym c.or_memory.ensures)
    (memory_ok c.scanned.result fit
    (older_fits content k cold v u c.older_with.new.defs.known c.args.ask.now c.in-Ok.answer c.version.result c.scanned.result
    explained answer c.version.ensures c.scanned.ensures))

pub returns-in-None-clause-fits : goal.returns-in-None-clause-fits
returns-in-None-clause-fits g c =
    let v = view c.args.pass.now in
    let u = view c.older_with.new.pass in
    let content = g.D.Disk.content c.older_with.new.disk in
    let k = c.args.log.now.key in
    let cold = c.args.file.now.cold in
    let fit = IsFit (IsHere content k cold) v u (work.Scan c.args.ask.now) in
    let refused = subst (λ (z : Result Answer ScanRefusal). IfErr z (IsRefusedWith v u c.older_with.new.defs.known c.args.ask.now))
    c.in-Err.is c.older_with.ensures.scans.refused in
    subst (λ (r : Result Item LaneFault). IfOk r fit) (sym c.or_memory-in-None.ensures)
    (memory_ok c.refused.result fit (ok_then c.refused.result (λ x h. inr h)
    (refused_item v u c.args.ask.now c.version-in-None.result c.in-Err.refusal item.ScanRefused c.refused.result
    (λ why is. refused_older v u c.older_with.new.defs.known c.args.ask.now c.in-Err.refusal c.version-in-None.result why
    refused is c.version-in-None.ensures) c.refused.ensures)))

pub older_with-requires-clause-has : goal.older_with-requires-clause-has
older_with-requires-clause-has g c = c.requires.has

-- ---- why it stops

pub returns-in-Ok-clause-stops : goal.returns-in-Ok-clause-stops
returns-in-Ok-clause-stops g c =
    let disk = g.D.Disk in
    let past = IsHere (disk.content c.older_with.new.disk) c.args.log.now.key c.args.file.now.cold in
    let before = disk.faults c.args.disk.now in
    let now = disk.faults c.older_with.new.disk in
    subst (λ (r : Result Item LaneFault). IfErr r (StopsBy past before now)) (sym c.or_memory.ensures)
    (or_memory_stops past before now c.scanned.result c.older_with.ensures.reads.pages.cold.later)

pub returns-in-Some-clause-stops : goal.returns-in-Some-clause-stops
returns-in-Some-clause-stops g c =
    let disk = g.D.Disk in
    let content = disk.content c.older_with.new.disk in
    let scans = c.older_with.ensures.scans in
    refusal_stops content c.args.log.now.key c.args.file.now.cold (disk.faults c.args.disk.now) (disk.faults c.older_with.new.disk)
    c.in-Err.refusal c.in-Some.fault c.older_with.ensures.reads.pages.cold.later
    (subst (λ (z : Result Answer ScanRefusal). IsScanFault (disk.faults c.args.disk.now) (disk.faults c.older_with.new.disk) z) c.in-Err.is
    scans.fault)
    (λ carries. subst (λ (z : Result Answer ScanRefusal). IfErr z IsUndamagedScan) c.in-Err.is (scans.whole carries))
    (sym c.fault_of.ensures ∙ c.in-Some.is)

pub returns-in-None-clause-stops : goal.returns-in-None-clause-stops
returns-in-None-clause-stops g c =
    let disk = g.D.Disk in
    let past = IsHere (disk.content c.older_with.new.disk) c.args.log.now.key c.args.file.now.cold in
    let before = disk.faults c.args.disk.now in
    let now = disk.faults c.older_with.new.disk in
    subst (λ (r : Result Item LaneFault). IfErr r (StopsBy past before now)) (sym c.or_memory-in-None.ensures)
    (or_memory_stops past before now c.refused.result c.older_with.ensures.reads.pages.cold.later)
