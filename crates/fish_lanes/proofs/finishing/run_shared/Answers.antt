-- Each statement's item is one of the statement, after what the disk has before the table.
use Rattle.std.proofs.Common.{arith, sym, subst}
use Rattle.std.specs.Prelude.{IfErr, IfOk}
use Rattle.fish_ingest.proofs.IngestionStart.{idle_law}
use Rattle.fish_lanes.proofs.Faults.{memory_stops, other_part, stops_scan}
use Rattle.fish_lanes.proofs.Pages.{reads_none}
use Rattle.fish_lanes.proofs.Parts.{scan_items, scan_part}
use Rattle.fish_lanes.proofs.SoFar.{item_fewer}
use Rattle.fish_lanes.specs.declared.work.Work.{Work}
use Rattle.fish_lanes.specs.within.Doing.{IsItem, IsPart}
use Rattle.fish_lanes.specs.within.Pasts.{IsHere, anywhere}
use Rattle.fish_rule.specs.Passes.{view}
use Rattle.fish_lanes.proofs.finishing.run_shared.Goals as goal

-- ---- a scan

pub returns-in-Scan-clause-item : goal.returns-in-Scan-clause-item
returns-in-Scan-clause-item g c =
    let v = view c.args.pass.now in
    let u = view c.scan_older.new.pass in
    let here = IsHere (g.D.Disk.content c.scan_older.new.disk) c.args.log.now.key c.args.file.now.cold in
    subst (λ (w : Work). IfOk c.scan_older.result (IsItem here v u w)) (sym c.in-Scan.is)
    (scan_items here v u c.in-Scan.ask c.scan_older.result c.requires.start.outside
    (idle_law v c.requires.has.of.stands c.requires.start) c.scan_older.ensures.only c.scan_older.ensures.fits)

pub returns-in-Scan-clause-stops : goal.returns-in-Scan-clause-stops
returns-in-Scan-clause-stops g c =
    let disk = g.D.Disk in
    let v = view c.args.pass.now in
    let u = view c.scan_older.new.pass in
    let here = IsHere (disk.content c.scan_older.new.disk) c.args.log.now.key c.args.file.now.cold in
    stops_scan here (IsPart v u c.args.work.now) (disk.faults c.args.disk.now) (disk.faults c.scan_older.new.disk) c.scan_older.result
    (subst (λ (w : Work). IfErr c.scan_older.result (λ _. IsPart v u w)) (sym c.in-Scan.is)
    (scan_part v u c.in-Scan.ask c.scan_older.result c.requires.start.outside (idle_law v c.requires.has.of.stands c.requires.start)
    c.scan_older.ensures.only)) c.scan_older.ensures.stops

-- ---- any other, which doesn't wait for the file: it is one of the statement whatever the disk has

pub returns-in-Ok-clause-has : goal.returns-in-Ok-clause-has
returns-in-Ok-clause-has g c = record { of = c.run_work.ensures.pass; read = c.run_work.ensures.defs }

pub returns-in-Ok-clause-reads : goal.returns-in-Ok-clause-reads
returns-in-Ok-clause-reads g c = reads_none g.D.Disk c.args.log.now.key c.args.disk.now c.args.file.now c.requires.below

pub returns-in-Ok-clause-item : goal.returns-in-Ok-clause-item
returns-in-Ok-clause-item g c =
    item_fewer anywhere (IsHere (g.D.Disk.content c.args.disk.now) c.args.log.now.key c.args.file.now.cold) (view c.args.pass.now)
    (view c.run_work.new.pass) c.args.work.now c.in-Ok.item (λ past here. tt) c.in-Ok.ensures.item

pub returns-in-Err-clause-has : goal.returns-in-Err-clause-has
returns-in-Err-clause-has g c = record { of = c.run_work.ensures.pass; read = c.run_work.ensures.defs }

pub returns-in-Err-clause-reads : goal.returns-in-Err-clause-reads
returns-in-Err-clause-reads g c = reads_none g.D.Disk c.args.log.now.key c.args.disk.now c.args.file.now c.requires.below

pub returns-in-Err-clause-stops : goal.returns-in-Err-clause-stops
returns-in-Err-clause-stops g c =
    let faults = g.D.Disk.faults c.args.disk.now in (
      other_part (view c.args.pass.now) (view c.run_work.new.pass) c.args.work.now c.in-Err.field-0 c.in_default.not-Scan
          c.in-Err.ensures.part,
      memory_stops (IsHere (g.D.Disk.content c.args.disk.now) c.args.log.now.key c.args.file.now.cold) faults faults (omega arith),
    )
