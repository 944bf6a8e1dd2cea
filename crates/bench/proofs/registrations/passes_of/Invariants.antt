-- The lanes so far were given out, and their passes are ready.
use Rattle.std.proofs.Common.{◌≤◌, All}
use Rattle.bench.specs.Opening.{IsReady}
use Rattle.bench.specs.Registrations.{IsKept}
use Rattle.bench.proofs.registrations.passes_of.Given as goal

abbrev pub invariant-loop-number : goal.invariant-loop-number
invariant-loop-number l = record {
  kept : IsKept l.number l.log l.control l.registrar;
  few : l.number ≤ 5;
  ready : All (IsReady l.log) l.passes.items;
}
