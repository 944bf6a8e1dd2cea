-- The store carries what was committed.
use Rattle.tests_store.specs.Flushing.{IsFlushing}
use Rattle.tests_store.proofs.checkpoints.steps_told.Given as goal

abbrev pub invariant-loop-payloads : goal.invariant-loop-payloads
invariant-loop-payloads g l = IsFlushing (g.D.Disk.images l.disk) l.log l.control
