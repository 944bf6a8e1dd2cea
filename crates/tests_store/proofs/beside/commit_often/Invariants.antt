-- The store carries what was committed.
use Rattle.tests_store.specs.Flushing.{IsFlushing}
use Rattle.tests_store.proofs.beside.commit_often.Given as goal

abbrev pub invariant-loop : goal.invariant-loop
invariant-loop g l = IsFlushing (g.D.Disk.images l.disk) l.log l.control
