-- The blocks run from the moment at which the store was opened, and the log that is closed is the one of which they tell.
use Rattle.std.proofs.Common.{◌≡◌, ◌∙◌, Bool, Err, List, None, Ok, Some, ap, subst, sym, refl, ℕ}
use Rattle.fish_rule.specs.ClosedLog.{IsClosed}
use Rattle.fish_rule.specs.Passes.{view}
use Rattle.fish_rule.specs.declared.close.Remains.{Remains}
use Rattle.fish_run.proofs.Closing.{OpenedAs, ends_late, ends_stopped, ends_whole, lost_all, lost_some, opened_as, well_some}
use Rattle.fish_run.proofs.Caused.{caused_end}
use Rattle.fish_run.proofs.Shown.{shown_is, shown_some}
use Rattle.fish_run.specs.Faults.{FaultCounts, HasRunCause, IsRunUndamaged, counts_of}
use Rattle.fish_rule.specs.declared.table.Log.{Log}
use Rattle.fish_run.specs.Ran.{IsRunLost, IsRunStopped, IsRunWhole}
use Rattle.fish_run.specs.declared.fault.RunFault.TheVariants as fault
use Rattle.fish_run.specs.within.Running.{Finishes}
use Rattle.fish_run.proofs.running.run_script.Given.{Over}
use Rattle.fish_run.proofs.running.run_script.Goals.{After-run_store}
use Rattle.fish_run.proofs.running.run_script.Goals as goal

-- the store is the one that was opened
begun : (g : Over) (c : After-run_store g) → OpenedAs g.D.Disk c.args.disk.now c.args.opened c.of_opened-store.result
begun g c =
    opened_as g.D.Disk c.args.disk.now c.args.opened c.of_opened-store.result c.requires.opened c.of_opened-store.ensures

-- what the disk tells is an image
as_read : (g : Over) (d : g.row.D.Denot) (i : List ℕ) → g.D.Disk.content d ≡ Some i → g.D.Disk.images d i
as_read g = (g.met.D.Disk g.world.𝓛 g.world.𝓜 g.world.𝓡 ((λ s x. x), (λ x. x), (λ x. x), λ x. x)).as_read

pub run_store-requires-clause-new : goal.run_store-requires-clause-new
run_store-requires-clause-new g c κs within =
    let s = c.of_opened-store.result in
    let e = c.of_opened-store.ensures in
    let h = c.requires.opened.2 in
    record {
      new = (opened_as g.D.Disk c.args.disk.now c.args.opened s c.requires.opened e).store;
      count_is = h.count ∙ sym h.number ∙ ap (λ (z : Log). z.key.number) (sym e.log);
      accepted = refl;
    }

-- ---- all blocks ran

pub returns-in-Ok-clause-whole : goal.returns-in-Ok-clause-whole
returns-in-Ok-clause-whole g c none =
    let l = c.in-Ok.field-0 in
    let h = c.in-Ok.ensures.all in
    let k = c.close in
    let now = g.W.Sink.written k.new.out in
    shown_some (λ (r : Remains). IsClosed (view l.store.pass) r × Finishes (Ok l.count) k.result.fault
    (g.W.Sink.written c.run_store.new.out) now)
    (λ (r : Remains). IsRunWhole g.D.Disk c.args.disk.now c.run_store.new.disk c.args.opened (g.H.Host.files c.run_store.new.host)
    c.args.script.now r (g.W.Sink.written c.args.out.now) now k.result.refused) k.result.remains
    (λ lost. (let bad : None ≡ Some fault.Memory = sym none ∙ (k.ensures.lost lost).0 in absurd cc)) k.ensures.shown
    (λ r f. subst (λ (z : Bool). IsRunWhole g.D.Disk c.args.disk.now c.run_store.new.disk c.args.opened
    (g.H.Host.files c.run_store.new.host) c.args.script.now r (g.W.Sink.written c.args.out.now) now z) (sym k.ensures.refused)
    (ends_whole g.D.Disk
    (as_read g) c.args.disk.now c.args.opened c.of_opened-store.result (begun g c.before.before.before) c.run_store.new.disk
    (g.H.Host.files c.run_store.new.host) c.args.script.now (g.W.Sink.written c.args.out.now) (g.W.Sink.written c.run_store.new.out) now
    l.store h.close r f.0 c.run_store.new.refused l.count k.result.fault none h.runs (h.committed refl) f.1))

pub returns-in-Ok-clause-stopped : goal.returns-in-Ok-clause-stopped
returns-in-Ok-clause-stopped g c why fault_is r is =
    let l = c.in-Ok.field-0 in
    let h = c.in-Ok.ensures.all in
    let k = c.close in
    let now = g.W.Sink.written k.new.out in
    shown_is (λ (r : Remains). IsClosed (view l.store.pass) r × Finishes (Ok l.count) k.result.fault
    (g.W.Sink.written c.run_store.new.out) now)
    (λ (r : Remains). IsRunStopped g.D.Disk c.args.disk.now c.run_store.new.disk c.args.opened (g.H.Host.files c.run_store.new.host)
    c.args.script.now r (g.W.Sink.written c.args.out.now) now k.result.refused why) k.result.remains r is k.ensures.shown
    (λ f. subst (λ (z : Bool). IsRunStopped g.D.Disk c.args.disk.now c.run_store.new.disk c.args.opened
    (g.H.Host.files c.run_store.new.host) c.args.script.now r (g.W.Sink.written c.args.out.now) now z why) (sym k.ensures.refused)
    (ends_late g.D.Disk
    (as_read g) c.args.disk.now c.args.opened c.of_opened-store.result (begun g c.before.before.before) c.run_store.new.disk
    (g.H.Host.files c.run_store.new.host) c.args.script.now (g.W.Sink.written c.args.out.now) (g.W.Sink.written c.run_store.new.out) now
    l.store h.close r f.0 c.run_store.new.refused l.count why k.result.fault fault_is h.runs (h.committed refl) f.1))

pub returns-in-Ok-clause-lost : goal.returns-in-Ok-clause-lost
returns-in-Ok-clause-lost g c none =
    let l = c.in-Ok.field-0 in
    let k = c.close in (
      (k.ensures.lost none).0,
      subst (λ (z : _). IsRunLost g.D.Disk c.args.disk.now c.run_store.new.disk c.args.opened (g.H.Host.files c.run_store.new.host)
          c.args.script.now (g.W.Sink.written c.args.out.now) (g.W.Sink.written z) k.result.refused) (sym (k.ensures.lost none).1)
          (subst (λ (z : Bool). IsRunLost g.D.Disk c.args.disk.now c.run_store.new.disk c.args.opened
          (g.H.Host.files c.run_store.new.host) c.args.script.now (g.W.Sink.written c.args.out.now)
          (g.W.Sink.written c.run_store.new.out) z) (sym k.ensures.refused)
          (lost_all g.D.Disk
          (as_read g) c.args.disk.now c.args.opened c.of_opened-store.result (begun g c.before.before.before) c.run_store.new.disk
          (g.H.Host.files c.run_store.new.host) c.args.script.now (g.W.Sink.written c.args.out.now) (g.W.Sink.written c.run_store.new.out)
          (g.W.Sink.written c.run_store.new.out) l.store c.run_store.new.refused l.count c.in-Ok.ensures.all.runs)),
    )

pub returns-in-Ok-clause-cause : goal.returns-in-Ok-clause-cause
returns-in-Ok-clause-cause g c =
    let before : FaultCounts = counts_of g.H.Host.faults g.W.Sink.faults g.D.Disk.faults c.args.host.now c.args.out.now c.args.disk.now in
    let mid : FaultCounts = counts_of g.H.Host.faults g.W.Sink.faults g.D.Disk.faults c.run_store.new.host c.run_store.new.out
    c.run_store.new.disk in
    caused_end (g.D.Disk.content c.run_store.new.disk) before mid (g.W.Sink.faults c.close.new.out) (Ok c.in-Ok.field-0.count)
    c.close.result.fault c.run_store.ensures.later c.close.ensures.later tt c.close.ensures.inner c.close.ensures.output

-- ---- a fault stopped them

pub returns-in-Some-clause-whole : goal.returns-in-Some-clause-whole
returns-in-Some-clause-whole g c none =
    let stop = c.in-Err.field-0 in
    let k = c.close-in-Some in
    let now = g.W.Sink.written k.new.out in
    shown_some (λ (r : Remains). IsClosed (view c.in-Some.store.pass) r × Finishes (Err stop.why) k.result.fault
    (g.W.Sink.written c.run_store.new.out) now)
    (λ (r : Remains). IsRunWhole g.D.Disk c.args.disk.now c.run_store.new.disk c.args.opened
    (g.H.Host.files c.run_store.new.host) c.args.script.now r (g.W.Sink.written c.args.out.now) now k.result.refused) k.result.remains
    (λ lost. (let bad : None ≡ Some fault.Memory = sym none ∙ (k.ensures.lost lost).0 in absurd cc)) k.ensures.shown
    (λ r f. (let bad : Some stop.why ≡ None = sym f.1.0 ∙ none in absurd cc))

pub returns-in-Some-clause-stopped : goal.returns-in-Some-clause-stopped
returns-in-Some-clause-stopped g c why fault_is r is =
    let x = c.in-Some.store in
    let stop = c.in-Err.field-0 in
    let k = c.close-in-Some in
    let now = g.W.Sink.written k.new.out in
    shown_is (λ (r : Remains). IsClosed (view x.pass) r × Finishes (Err stop.why) k.result.fault (g.W.Sink.written c.run_store.new.out) now)
    (λ (r : Remains). IsRunStopped g.D.Disk c.args.disk.now c.run_store.new.disk c.args.opened (g.H.Host.files c.run_store.new.host)
    c.args.script.now r (g.W.Sink.written c.args.out.now) now k.result.refused why) k.result.remains r is k.ensures.shown
    (λ f. subst (λ (z : Bool). IsRunStopped g.D.Disk c.args.disk.now c.run_store.new.disk c.args.opened
    (g.H.Host.files c.run_store.new.host) c.args.script.now r (g.W.Sink.written c.args.out.now) now z why) (sym k.ensures.refused)
    (ends_stopped g.D.Disk
    (as_read g) c.args.disk.now c.args.opened c.of_opened-store.result (begun g c.before.before.before.before) c.run_store.new.disk
    (g.H.Host.files c.run_store.new.host) c.args.script.now (g.W.Sink.written c.args.out.now) (g.W.Sink.written c.run_store.new.out) now
    c.run_store.new.refused x r f.0 stop why k.result.fault fault_is c.in-Some.is c.in-Err.ensures.some f.1))

pub returns-in-Some-clause-lost : goal.returns-in-Some-clause-lost
returns-in-Some-clause-lost g c none =
    let k = c.close-in-Some in (
      (k.ensures.lost none).0,
      subst (λ (z : _). IsRunLost g.D.Disk c.args.disk.now c.run_store.new.disk c.args.opened (g.H.Host.files c.run_store.new.host)
          c.args.script.now (g.W.Sink.written c.args.out.now) (g.W.Sink.written z) k.result.refused) (sym (k.ensures.lost none).1)
          (subst (λ (z : Bool). IsRunLost g.D.Disk c.args.disk.now c.run_store.new.disk c.args.opened
          (g.H.Host.files c.run_store.new.host) c.args.script.now (g.W.Sink.written c.args.out.now)
          (g.W.Sink.written c.run_store.new.out) z) (sym k.ensures.refused)
          (lost_some g.D.Disk
          (as_read g) c.args.disk.now c.args.opened c.of_opened-store.result (begun g c.before.before.before.before) c.run_store.new.disk
          (g.H.Host.files c.run_store.new.host) c.args.script.now (g.W.Sink.written c.args.out.now) (g.W.Sink.written c.run_store.new.out)
          (g.W.Sink.written c.run_store.new.out) c.run_store.new.refused c.in-Err.field-0 c.in-Err.ensures.some)),
    )

pub returns-in-Some-clause-cause : goal.returns-in-Some-clause-cause
returns-in-Some-clause-cause g c =
    let before : FaultCounts = counts_of g.H.Host.faults g.W.Sink.faults g.D.Disk.faults c.args.host.now c.args.out.now c.args.disk.now in
    let mid : FaultCounts = counts_of g.H.Host.faults g.W.Sink.faults g.D.Disk.faults c.run_store.new.host c.run_store.new.out
    c.run_store.new.disk in
    let op = c.requires.opened in
    let stop = c.in-Err.field-0 in
    let k = c.close-in-Some in
    let was : HasRunCause (g.D.Disk.content c.run_store.new.disk) before mid stop.why = record {
      caused = c.in-Err.ensures.cause;
      whole = well_some g.D.Disk
          (as_read g) c.args.disk.now c.args.opened c.of_opened-store.result (begun g c.before.before.before.before) c.run_store.new.disk
          (g.H.Host.files c.run_store.new.host) c.args.script.now (g.W.Sink.written c.args.out.now) (g.W.Sink.written c.run_store.new.out)
          (g.W.Sink.written c.run_store.new.out) op.0 op.1 op.2 stop c.in-Err.ensures.some;
    } in
    caused_end (g.D.Disk.content c.run_store.new.disk) before mid (g.W.Sink.faults k.new.out) (Err stop.why) k.result.fault
    c.run_store.ensures.later k.ensures.later was k.ensures.inner k.ensures.output

-- ---- and there is no store

pub returns-in-None-clause-cause : goal.returns-in-None-clause-cause
returns-in-None-clause-cause g c = record {
  caused = c.in-Err.ensures.cause;
  whole = λ told. subst IsRunUndamaged (sym (c.in-Err.ensures.some.stops.lost c.in-None.is)) tt;
}

pub returns-in-None-clause-lost : goal.returns-in-None-clause-lost
returns-in-None-clause-lost g c none =
    let some = c.in-Err.ensures.some in (
      ap Some (some.stops.lost c.in-None.is),
      lost_some g.D.Disk
          (as_read g) c.args.disk.now c.args.opened c.of_opened-store.result (begun g c.before.before) c.run_store.new.disk
          (g.H.Host.files c.run_store.new.host) c.args.script.now (g.W.Sink.written c.args.out.now) (g.W.Sink.written c.run_store.new.out)
          (g.W.Sink.written c.run_store.new.out) c.run_store.new.refused c.in-Err.field-0 some,
    )
