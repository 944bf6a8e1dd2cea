-- A block that ran and was written, and where a fault came.
use Rattle.std.proofs.Common.{◌≡◌, ◌∙◌, Err, List, refl, subst, sym}
use Rattle.std.specs.Prelude.{◌||◌}
use Rattle.fish_feed.specs.Works.{AreStatementsDone}
use Rattle.fish_script.specs.Laws.{Pairs}
use Rattle.fish_outside.specs.Content.{Gained, GainedPart}
use Rattle.fish_report.specs.ReportText.{report_text}
use Rattle.fish_run.proofs.Caused.{caused_given, caused_write}
use Rattle.fish_run.proofs.Faults.{write_well}
use Rattle.fish_run.proofs.Going.{err_known}
use Rattle.fish_run.proofs.One.{one_cut, one_ended, one_unwritten}
use Rattle.fish_run.specs.Blocks.{with_cut}
use Rattle.fish_run.specs.Faults.{IsRunUndamaged, write_fault}
use Rattle.fish_run.specs.Reports.{said_items, said_refused}
use Rattle.fish_run.specs.Rounds.{AreRounds}
use Rattle.fish_run.specs.within.Faults.{CausesStop}
use Rattle.fish_run.specs.within.Parts.{AreTexts}
use Rattle.fish_run.specs.Faults.{counts_of}
use Rattle.fish_run.specs.within.Running.{StopsOne}
use Rattle.fish_run.specs.Faults.{FaultCounts, IsCausedBy}
use Rattle.fish_run.specs.declared.fault.RunFault.{RunFault}
use Rattle.fish_run.specs.declared.lasting.Stopped.{Stopped}
use Rattle.fish_run.specs.declared.saying.Said.{Said}
use Rattle.fish_script.specs.declared.script.Statement.{Statement}
use Rattle.fish_run.proofs.running.run_one.Goals as goal

pub run_lanes-requires-clause-texts : goal.run_lanes-requires-clause-texts
run_lanes-requires-clause-texts g c κs within =
    let block = c.requires.block in
    subst AreTexts (sym c.as_slice-texts.ensures)
    (record { some = block.some; few = block.few; runnable = block.statements; free = block.free })

-- ---- a fault stopped its rounds

pub returns-in_err-store-clause-stopped : goal.returns-in_err-store-clause-stopped
returns-in_err-store-clause-stopped g c =
    let disk = g.D.Disk in
    let told = g.H.Host.files c.run_lanes.new.host in
    let written = g.W.Sink.written c.args.out.now in
    let e = c.in_err-store.field-0.0 in
    let stop = c.in_err-store.ensures.stopped in
    err_known c.from_residual.result
    (StopsOne disk c.args.disk.now c.run_lanes.new.disk c.args.lasts told c.args.block.now
    written written c.args.refused.now c.args.refused.now) e c.from_residual.ensures.1
    (one_cut disk c.args.disk.now c.args.lasts told c.args.block.now c.requires.go
    c.run_lanes.new.disk stop.given written c.args.refused.now e stop.stops
    (subst (λ (z : List (List Statement)). AreRounds told z (with_cut stop.stops.rounds stop.stops.cut)) c.as_slice-texts.ensures stop.are))

pub returns-in_err-store-clause-cause : goal.returns-in_err-store-clause-cause
returns-in_err-store-clause-cause g c =
    let host = g.H.Host.faults in
    let disk = g.D.Disk.faults in
    let before : FaultCounts = counts_of host g.W.Sink.faults disk c.args.host.now c.args.out.now c.args.disk.now in
    let now : FaultCounts = counts_of host g.W.Sink.faults disk c.run_lanes.new.host c.args.out.now c.run_lanes.new.disk in
    let e = c.in_err-store.field-0.0 in
    let causes = subst (CausesStop (host c.args.host.now) (host c.run_lanes.new.host) (disk c.args.disk.now) (disk c.run_lanes.new.disk))
    c.in_err-store.was c.run_lanes.ensures.causes in
    err_known c.from_residual.result (λ (s : Stopped). IsCausedBy before now s.why) e c.from_residual.ensures.1
    (caused_given before now e.why causes.input causes.inner causes.of_disk)

-- ---- they came to their end

pub returns-in-Ok-clause-ended : goal.returns-in-Ok-clause-ended
returns-in-Ok-clause-ended g c =
    let disk = g.D.Disk in
    let told = g.H.Host.files c.run_lanes.new.host in
    let old = g.W.Sink.written c.args.out.now in
    let new = g.W.Sink.written c.tell-told.new.out in
    let d = c.in_ok-store.field-0 in
    let end = c.in_ok-store.ensures.ended in
    let done = subst (λ (z : List (List Statement)). Pairs (AreStatementsDone told) z end.given) c.as_slice-texts.ensures end.done in
    let items = c.as_slice.ensures.value in
    one_ended disk c.args.disk.now c.args.lasts told c.args.block.now c.requires.go
    c.run_lanes.new.disk d end.given done end.rounds old new c.args.refused.now c.tell-told.new.refused _ refl
    (subst (λ (z : List Said). Gained old new (report_text (said_items c.args.block.now.several c.args.lasts.count d.end z))) items
    c.in-Ok.ensures.written)
    (subst (λ (z : List Said). c.tell-told.new.refused ≡ c.args.refused.now || said_refused z) items c.tell-told.ensures.refused)

pub returns-in-Err-clause-stopped : goal.returns-in-Err-clause-stopped
returns-in-Err-clause-stopped g c =
    let disk = g.D.Disk in
    let told = g.H.Host.files c.run_lanes.new.host in
    let old = g.W.Sink.written c.args.out.now in
    let new = g.W.Sink.written c.tell-told.new.out in
    let d = c.in_ok-store.field-0 in
    let end = c.in_ok-store.ensures.ended in
    let done = subst (λ (z : List (List Statement)). Pairs (AreStatementsDone told) z end.given) c.as_slice-texts.ensures end.done in
    let items = c.as_slice.ensures.value in
    let e = c.stopped.result in
    let refusal = c.in-Err.refusal in
    let why : e.why ≡ write_fault refusal = c.stopped.ensures.why ∙ c.from.ensures in
    one_unwritten disk c.args.disk.now c.args.lasts told c.args.block.now c.requires.go
    c.run_lanes.new.disk d end.given done end.rounds old new c.args.refused.now c.tell-told.new.refused e c.stopped.ensures.store
    (subst IsRunUndamaged (sym why) (write_well refusal)) (refusal, why)
    (subst (λ (z : List Said). GainedPart old new (report_text (said_items c.args.block.now.several c.args.lasts.count d.end z))) items
    c.in-Err.ensures.part)
    (subst (λ (z : List Said). c.tell-told.new.refused ≡ c.args.refused.now || said_refused z) items c.tell-told.ensures.refused)

pub returns-in-Err-clause-cause : goal.returns-in-Err-clause-cause
returns-in-Err-clause-cause g c =
    let before : FaultCounts = counts_of g.H.Host.faults g.W.Sink.faults g.D.Disk.faults c.args.host.now c.args.out.now c.args.disk.now in
    let now : FaultCounts = counts_of g.H.Host.faults g.W.Sink.faults g.D.Disk.faults c.run_lanes.new.host c.tell-told.new.out
    c.run_lanes.new.disk in
    let refusal = c.in-Err.refusal in
    let why : c.stopped.result.why ≡ write_fault refusal = c.stopped.ensures.why ∙ c.from.ensures in
    subst (λ (z : RunFault). IsCausedBy before now z) (sym why)
    (caused_write before now refusal (λ is. c.in-Err.ensures.cause.failed (λ i. Err (is i))))
