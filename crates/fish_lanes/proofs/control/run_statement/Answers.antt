-- A statement on definitions, a checkpoint, or any other one.
use Rattle.std.proofs.Common.{Result, refl, sym, subst}
use Rattle.fish_epoch.proofs.Reading.{defs_later}
use Rattle.fish_lanes.proofs.SoFar.{shared_of}
use Rattle.fish_lanes.proofs.Steps.{runs_shared, runs_step}
use Rattle.fish_lanes.specs.Registering.{IsAcceptable}
use Rattle.fish_lanes.specs.declared.work.LaneFault.{LaneFault}
use Rattle.fish_lanes.specs.declared.work.Work.{Work}
use Rattle.fish_lanes.specs.declared.work.Work.TheVariants as work
use Rattle.fish_lanes.specs.within.Parts.{RunsStatement, store_of}
use Rattle.fish_report.specs.declared.item.Item.{Item}
use Rattle.fish_rule.specs.Passes.{view}
use Rattle.fish_lanes.proofs.control.run_statement.Goals as goal

pub register-requires-clause-can : goal.register-requires-clause-can
register-requires-clause-can g c = c.requires.run.can

pub register-requires-clause-name : goal.register-requires-clause-name
register-requires-clause-name g c = (subst IsAcceptable c.in-Register.is c.requires.acceptable).0

pub register-requires-clause-said : goal.register-requires-clause-said
register-requires-clause-said g c = (subst IsAcceptable c.in-Register.is c.requires.acceptable).1

pub returns-in-Register-clause-ran : goal.returns-in-Register-clause-ran
returns-in-Register-clause-ran g c =
    let disk = g.D.Disk in
    let before = store_of c.args.file.now c.args.log.now c.args.pass.now c.args.registrar.now in
    let after = store_of c.args.file.now c.args.log.now c.register.new.pass c.register.new.registrar in
    subst (λ (z : Work × Result Item LaneFault). RunsStatement disk c.args.disk.now before c.args.disk.now after z.0 z.1)
    (λ i. (sym c.in-Register.is i, sym c.or_memory.ensures i))
    (runs_step disk c.args.disk.now before c.requires.run c.register.new.pass c.register.new.registrar
    (work.Register c.in-Register.name c.in-Register.def) c.register.result refl (λ bad. absurd cc) c.register.ensures.on
    c.register.ensures.item c.register.ensures.tells)

pub deregister-requires-clause-can : goal.deregister-requires-clause-can
deregister-requires-clause-can g c = c.requires.run.can

pub returns-in-Deregister-clause-ran : goal.returns-in-Deregister-clause-ran
returns-in-Deregister-clause-ran g c =
    let disk = g.D.Disk in
    let before = store_of c.args.file.now c.args.log.now c.args.pass.now c.args.registrar.now in
    let after = store_of c.args.file.now c.args.log.now c.deregister.new.pass c.deregister.new.registrar in
    subst (λ (z : Work × Result Item LaneFault). RunsStatement disk c.args.disk.now before c.args.disk.now after z.0 z.1)
    (λ i. (sym c.in-Deregister.is i, sym c.or_memory-in-Deregister.ensures i))
    (runs_step disk c.args.disk.now before c.requires.run c.deregister.new.pass c.deregister.new.registrar
    (work.Deregister c.in-Deregister.name) c.deregister.result refl (λ bad. absurd cc) c.deregister.ensures.on
    c.deregister.ensures.item c.deregister.ensures.tells)

pub returns-in-Checkpoint-clause-defs : goal.returns-in-Checkpoint-clause-defs
returns-in-Checkpoint-clause-defs g c = defs_later (view c.args.pass.now) (view c.commit.new.pass) c.args.defs.now.known
    c.commit.ensures.reads.learns c.requires.defs

pub returns-in-Checkpoint-clause-ran : goal.returns-in-Checkpoint-clause-ran
returns-in-Checkpoint-clause-ran g c =
    let before = store_of c.args.file.now c.args.log.now c.args.pass.now c.args.registrar.now in
    let after = store_of c.commit.new.file c.args.log.now c.commit.new.pass c.args.registrar.now in
    subst (λ (z : Work). RunsStatement g.D.Disk c.args.disk.now before c.commit.new.disk after z c.commit.result)
    (sym c.in-Checkpoint.is) c.commit.ensures.ran

pub run_shared-requires-clause-has : goal.run_shared-requires-clause-has
run_shared-requires-clause-has g c = record { of = c.requires.run.can.of; read = c.requires.defs }

pub run_shared-requires-clause-start : goal.run_shared-requires-clause-start
run_shared-requires-clause-start g c = c.requires.run.can.start

pub run_shared-requires-clause-below : goal.run_shared-requires-clause-below
run_shared-requires-clause-below g c = c.requires.run.below

pub run_shared-requires-clause-shared : goal.run_shared-requires-clause-shared
run_shared-requires-clause-shared g c =
    shared_of c.args.work.now c.in_default.not-Register c.in_default.not-Deregister c.in_default.not-Checkpoint

pub returns-in_default-clause-ran : goal.returns-in_default-clause-ran
returns-in_default-clause-ran g c =
    let before = store_of c.args.file.now c.args.log.now c.args.pass.now c.args.registrar.now in
    let e = c.run_shared.ensures in
    runs_shared g.D.Disk c.args.disk.now before c.requires.run c.run_shared.new.disk c.run_shared.new.file c.run_shared.new.pass
    c.args.work.now c.run_shared.result
    (shared_of c.args.work.now c.in_default.not-Register c.in_default.not-Deregister c.in_default.not-Checkpoint)
    c.in_default.not-Checkpoint e.has.of e.reads e.item e.stops
