-- The script that was read can be run, and as its run ends so does the command.
use Rattle.std.proofs.Common.{inr, subst}
use Rattle.fish_recover.specs.declared.refusal.Asked.{Asked}
use Rattle.fish_program.specs.Outcome.{EndsScript}
use Rattle.fish_program.specs.Runs.{HasScript}
use Rattle.fish_program.proofs.Fates.{script_still}
use Rattle.fish_program.proofs.script.answer_run.Goals as goal

pub run_store-outcome-requires-clause-script : goal.run_store-outcome-requires-clause-script
run_store-outcome-requires-clause-script g t lifetimes bounds =
    let read = t.in-Ok.ensures.script in
    rw t.as_slice.ensures (t.law_scripts_can_run.ensures read.text t.in-Ok.script read.is)

pub returns-in-Ok-clause-ended : goal.returns-in-Ok-clause-ended
returns-in-Ok-clause-ended g c =
    let disk = g.D.Disk in
    let file = c.args.command.now.script in
    let told = g.H.Host.files c.run_store-outcome.new.host in
    let texts = c.as_slice.result.now in
    let old = g.W.Sink.written c.args.out.now in
    let new = g.W.Sink.written c.run_store-outcome.new.out in
    let ended = c.run_store-outcome.result in
    let read : HasScript file told texts = rw c.as_slice.ensures
    (script_still file (g.H.Host.files c.read_script.new.host) told c.in-Ok.script c.run_store-outcome.ensures.content
    c.in-Ok.ensures.script) in
    inr (
      texts,
      read,
      subst (λ (a : Asked). EndsScript disk c.args.disk.now
          c.run_store-outcome.new.disk a told texts old new ended ended.fault) c.asked_by.ensures.is c.run_store-outcome.ensures.ended,
    )
