-- The pass may ingest, and the registrar keeps what it knows.
use Rattle.tests_log.specs.Registering.{IsWorking}
use Rattle.tests_log.proofs.statements.store_values.Given as goal

abbrev pub invariant-loop-number : goal.invariant-loop-number
invariant-loop-number l = IsWorking l.log l.control l.registrar l.defs
