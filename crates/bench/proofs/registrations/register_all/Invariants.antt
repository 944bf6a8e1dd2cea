-- The registrar keeps what the pass knows.
use Rattle.bench.specs.Registrations.{IsKept}
use Rattle.bench.proofs.registrations.register_all.Given as goal

abbrev pub invariant-loop-definition : goal.invariant-loop-definition
invariant-loop-definition l = IsKept 16 l.log l.control l.registrar
