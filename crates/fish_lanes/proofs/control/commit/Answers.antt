-- What is committed is what an item tells, and the control pass goes on.
use Rattle.std.proofs.Common.{◌∙◌, ℕ, Err, Result, ap, subst}
use Rattle.fish_flush.proofs.Lasting.{known_held}
use Rattle.fish_flush.specs.declared.refusal.FlushRefusal.{FlushRefusal}
use Rattle.fish_lanes.proofs.Steps.{by_commit, runs_commit}
use Rattle.fish_lanes.specs.declared.work.Work.TheVariants as work
use Rattle.fish_lanes.specs.within.Parts.{RunsStatement, store_of}
use Rattle.fish_rule.specs.Passes.{view}
use Rattle.fish_lanes.proofs.control.commit.Goals as goal

pub checkpoint-requires-clause-pass : goal.checkpoint-requires-clause-pass
checkpoint-requires-clause-pass g c = c.requires.run.can.of

pub checkpoint-requires-clause-rows : goal.checkpoint-requires-clause-rows
checkpoint-requires-clause-rows g c = known_held (view c.args.pass.now) c.args.registrar.now c.requires.run.can.knows

pub checkpoint-requires-clause-may : goal.checkpoint-requires-clause-may
checkpoint-requires-clause-may g c = c.requires.run.commit

pub returns-in-Ok-clause-ran : goal.returns-in-Ok-clause-ran
returns-in-Ok-clause-ran g c =
    let disk = g.D.Disk in
    let before = store_of c.args.file.now c.args.log.now c.args.pass.now c.args.registrar.now in
    let after = store_of c.checkpoint.new.self c.args.log.now c.checkpoint.new.pass c.args.registrar.now in
    let e = c.checkpoint.ensures in
    subst (λ (z : Result ℕ FlushRefusal). RunsStatement disk c.args.disk.now before c.checkpoint.new.disk after work.Checkpoint
    (by_commit disk c.args.disk.now before c.requires.run z)) c.in-Ok.is
    (runs_commit disk c.args.disk.now before c.requires.run c.checkpoint.new.disk c.checkpoint.new.self c.checkpoint.new.pass
    e.pass e.reads e.cold e.goes c.checkpoint.result e.settled e.commit e.again e.rows e.cause)

pub returns-in-Err-DiskFault-clause-ran : goal.returns-in-Err-DiskFault-clause-ran
returns-in-Err-DiskFault-clause-ran g c =
    let disk = g.D.Disk in
    let before = store_of c.args.file.now c.args.log.now c.args.pass.now c.args.registrar.now in
    let after = store_of c.checkpoint.new.self c.args.log.now c.checkpoint.new.pass c.args.registrar.now in
    let e = c.checkpoint.ensures in
    subst (λ (z : Result ℕ FlushRefusal). RunsStatement disk c.args.disk.now before c.checkpoint.new.disk after work.Checkpoint
    (by_commit disk c.args.disk.now before c.requires.run z)) (c.in-Err-DiskFault.is ∙ ap Err c.in-Err-DiskFault.field-0-is)
    (runs_commit disk c.args.disk.now before c.requires.run c.checkpoint.new.disk c.checkpoint.new.self c.checkpoint.new.pass
    e.pass e.reads e.cold e.goes c.checkpoint.result e.settled e.commit e.again e.rows e.cause)

pub returns-in-Err-OutOfMemory-clause-ran : goal.returns-in-Err-OutOfMemory-clause-ran
returns-in-Err-OutOfMemory-clause-ran g c =
    let disk = g.D.Disk in
    let before = store_of c.args.file.now c.args.log.now c.args.pass.now c.args.registrar.now in
    let after = store_of c.checkpoint.new.self c.args.log.now c.checkpoint.new.pass c.args.registrar.now in
    let e = c.checkpoint.ensures in
    subst (λ (z : Result ℕ FlushRefusal). RunsStatement disk c.args.disk.now before c.checkpoint.new.disk after work.Checkpoint
    (by_commit disk c.args.disk.now before c.requires.run z)) (c.in-Err-OutOfMemory.is ∙ ap Err c.in-Err-OutOfMemory.field-0-is)
    (runs_commit disk c.args.disk.now before c.requires.run c.checkpoint.new.disk c.checkpoint.new.self c.checkpoint.new.pass
    e.pass e.reads e.cold e.goes c.checkpoint.result e.settled e.commit e.again e.rows e.cause)
