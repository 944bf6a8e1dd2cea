-- The pass may ingest, and the registrar keeps what it knows.
use Rattle.tests_log.specs.Registering.{IsWorking}
use Rattle.tests_log.proofs.statements.expect_named.Given as goal

abbrev pub invariant-loop-name : goal.invariant-loop-name
invariant-loop-name g l = IsWorking l.log l.control l.registrar l.defs
