-- The lanes are out beside the registrar.
use Rattle.tests_log.specs.Registering.{IsBeside}
use Rattle.tests_log.proofs.races.change_all.Given as goal

abbrev pub invariant-loop-turn : goal.invariant-loop-turn
invariant-loop-turn l = IsBeside l.log l.control l.registrar
