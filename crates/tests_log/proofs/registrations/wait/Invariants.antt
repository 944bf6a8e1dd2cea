-- The lanes are out beside the registrar.
use Rattle.tests_log.specs.Registering.{IsBeside}
use Rattle.tests_log.proofs.registrations.wait.Given as goal

abbrev pub invariant-loop : goal.invariant-loop
invariant-loop l = IsBeside l.log l.control l.registrar
