-- The registrar keeps what the pass knows.
use Rattle.bench.specs.Registrations.{IsKept}
use Rattle.bench.proofs.registrations.change.Given as goal

abbrev pub invariant-loop : goal.invariant-loop
invariant-loop l = IsKept 16 l.log l.control l.registrar
