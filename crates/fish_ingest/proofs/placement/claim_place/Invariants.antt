-- Every claim so far became a void. Numbers end, so that ends.
use Rattle.std.proofs.Common.{◌+◌, ◌-◌}
use Rattle.fish_ingest.proofs.PlacementClaims.{IsTrying}
use Rattle.fish_rule.specs.Passes.{IsPassOf, view}
use Rattle.fish_rule.specs.World.{slots}
use Rattle.fish_ingest.proofs.placement.claim_place.Given as goal

abbrev pub invariant-loop-number : goal.invariant-loop-number
invariant-loop-number l = record {
  of : IsPassOf l.log l.pass;
  trying : IsTrying (view l.fn.pass) (view l.pass);
}

abbrev pub decreases-loop-number : goal.decreases-loop-number
decreases-loop-number l = l.log.key.number + slots l.log.key - (view l.pass).learned.count
