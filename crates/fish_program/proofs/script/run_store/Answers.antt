-- A store that was opened is the one that the disk held, and what the script's run ensures is how the command ends.
use Rattle.std.proofs.Common.{◌∙◌, refl, subst, sym}
use Rattle.fish_outside.proofs.CauseLemmas.{Rose_earlier}
use Rattle.fish_program.specs.Outcome.{DidNothing, EndsScript}
use Rattle.fish_program.specs.Stores.{IsUnopened}
use Rattle.fish_program.specs.declared.fault.Fault.{Fault}
use Rattle.fish_program.specs.declared.fault.Fault.TheVariants as fault
use Rattle.fish_program.proofs.Fates.{fate_of, gained_nil, ran_back, refused_end, run_end, undamaged, went_as}
use Rattle.fish_run.specs.declared.fault.RunFault.TheVariants as ran
use Rattle.fish_program.proofs.Stores.{opens}
use Rattle.fish_program.proofs.script.run_store.Goals as goal

pub run_script-ran-requires-clause-opened : goal.run_script-ran-requires-clause-opened
run_script-ran-requires-clause-opened g t lifetimes bounds =
    let has = t.in-Ok.ensures.opened in (has.commit, has.log, has.opened)

pub returns-in-Ok-clause-ended : goal.returns-in-Ok-clause-ended
returns-in-Ok-clause-ended g c =
    let disk = g.D.Disk in
    let start = c.args.disk.now in
    let mid = c.open_store.new.disk in
    let end = c.run_script-ran.new.disk in
    let told = g.H.Host.files c.run_script-ran.new.host in
    let script = c.args.script.now in
    let old = g.W.Sink.written c.args.out.now in
    let new = g.W.Sink.written c.run_script-ran.new.out in
    let ran = c.run_script-ran.result in
    let out = c.ended.result in
    let o = c.in-Ok.opened in
    let laws = g.met.D.Disk g.world.𝓛 g.world.𝓜 g.world.𝓡 ((λ s x. x), (λ x. x), (λ x. x), λ x. x) in
    let was = opens disk start mid end c.args.asked o c.in-Ok.ensures.opened
    (laws.only_now mid) c.in-Ok.ensures.since c.open_store.ensures.calls c.run_script-ran.ensures.before in
    let went = went_as disk start mid end c.args.asked told script old new out o ran was
    c.ended.ensures.report c.ended.ensures.refused c.ended.ensures.remains c.run_script-ran.ensures.whole c.run_script-ran.ensures.stopped
    c.run_script-ran.ensures.lost (undamaged (disk.content end) _ _ ran.fault c.run_script-ran.ensures.cause) in
    subst (λ (f : Fault). EndsScript disk start end c.args.asked told script old new out f)
    (sym c.ended.ensures.fault)
    (run_end disk start mid end c.args.asked told script old new out o ran.fault went)

pub returns-in-Ok-clause-input : goal.returns-in-Ok-clause-input
returns-in-Ok-clause-input g c is =
    (fate_of _ c.run_script-ran.result.fault ran.Input (ran_back c.run_script-ran.result.fault fault.Input (sym c.ended.ensures.fault ∙ is))
    c.run_script-ran.ensures.cause).caused.input refl

pub returns-in-Ok-clause-output : goal.returns-in-Ok-clause-output
returns-in-Ok-clause-output g c is =
    (fate_of _ c.run_script-ran.result.fault ran.Output
    (ran_back c.run_script-ran.result.fault fault.Output (sym c.ended.ensures.fault ∙ is))
    c.run_script-ran.ensures.cause).caused.output refl

-- the opening let the count of faults be, or raised it
pub returns-in-Ok-clause-disk : goal.returns-in-Ok-clause-disk
returns-in-Ok-clause-disk g c is =
    let faults = g.D.Disk.faults in
    Rose_earlier (faults c.args.disk.now) (faults c.open_store.new.disk) (faults c.run_script-ran.new.disk) c.open_store.ensures.cause.later
    ((fate_of _ c.run_script-ran.result.fault ran.Disk (ran_back c.run_script-ran.result.fault fault.Disk (sym c.ended.ensures.fault ∙ is))
    c.run_script-ran.ensures.cause).caused.disk refl)

pub returns-in-Err-clause-ended : goal.returns-in-Err-clause-ended
returns-in-Err-clause-ended g c =
    let disk = g.D.Disk in
    let start = c.args.disk.now in
    let end = c.open_store.new.disk in
    let told = g.H.Host.files c.args.host.now in
    let script = c.args.script.now in
    let old = g.W.Sink.written c.args.out.now in
    let out = c.failed.result in
    let e = c.in-Err.refusal in
    let none : IsUnopened disk start end c.args.asked e = record {
      cause = c.in-Err.ensures.refused;
      reads = c.in-Err.ensures.reads;
      leaves = c.in-Err.ensures.leaves;
      crash = c.open_store.ensures.crash;
      calls = c.open_store.ensures.calls;
    } in
    let nothing : DidNothing old old out = record {
      written = gained_nil old;
      report = c.failed.ensures.report;
      remains = c.failed.ensures.remains;
    } in
    subst (λ (f : Fault). EndsScript disk start end c.args.asked told script old old out f)
    (sym (c.failed.ensures.fault ∙ c.from.ensures))
    (refused_end disk start end end c.args.asked told script old old out e none nothing)
