-- The words so far are stored.
use Rattle.std.proofs.Common.{◌≡◌, take, Some}
use Rattle.fish_claim.specs.Fills.{filled_view}
use Rattle.fish_rule.specs.Passes.{IsPassOf, view}
use Rattle.fish_rule.specs.declared.view.Flight.{Flight}
use Rattle.fish_claim.proofs.flight.fill.Given as goal

abbrev pub invariant-loop-offset : goal.invariant-loop-offset
invariant-loop-offset l = record {
  of : IsPassOf l.log l.pass;
  known : (f : Flight) → (view l.fn.pass).flight ≡ Some f
      → view l.pass ≡ filled_view (view l.fn.pass) f (take l.offset l.body);
}
