-- The store carries what was committed.
use Rattle.tests_store.specs.Flushing.{IsFlushing}
use Rattle.tests_store.proofs.checkpoints.step.Given as goal

abbrev pub invariant-loop-payload : goal.invariant-loop-payload
invariant-loop-payload g l = IsFlushing (g.D.Disk.images l.disk) l.log l.control
