-- A record more leaves all that a checkpoint asks for.
use Rattle.std.proofs.Common.{ap}
use Rattle.fish_rule.specs.declared.view.View.{View}
use Rattle.tests_store.proofs.Flushed.{flushing_on}
use Rattle.tests_store.proofs.checkpoints.step.Goals as goal

pub loop-payload-preserved : goal.loop-payload-preserved
loop-payload-preserved g c =
    let frame = c.store.ensures.on.frame in
    flushing_on (g.D.Disk.images c.args.disk.now) c.args.log.now c.loop-payload.control c.loop-payload.invariant c.store.new.pass
    c.store.new.defs c.store.ensures.ready (ap (λ (z : View). z.lane) frame) (ap (λ (z : View). z.rows) frame)
    (ap (λ (z : View). z.control_words) frame) c.store.ensures.on.learns
