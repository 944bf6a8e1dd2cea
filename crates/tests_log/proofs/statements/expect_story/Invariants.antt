-- The pass may ingest, and the registrar keeps what it knows.
use Rattle.tests_log.specs.Registering.{IsWorking}
use Rattle.tests_log.proofs.statements.expect_story.Given as goal

abbrev pub invariant-loop-statement : goal.invariant-loop-statement
invariant-loop-statement g l = IsWorking l.log l.control l.registrar l.defs
