-- Each claim is a place, a void, or the end.
use Rattle.std.proofs.Common.{subst}
use Rattle.fish_claim.specs.Claims.{IsClaimed}
use Rattle.fish_claim.specs.declared.claimed.Claimed.{Claimed}
use Rattle.fish_ingest.proofs.PlacementClaims.{trying_falls, trying_more, trying_placed, trying_shut}
use Rattle.fish_rule.specs.Passes.{view}
use Rattle.fish_ingest.proofs.placement.claim_place.Goals as goal

pub returns-in-Placed-clause-placed : goal.returns-in-Placed-clause-placed
returns-in-Placed-clause-placed c =
    let u = view c.loop-number.pass in
    let t = view c.claim.new.pass in
    trying_placed (view c.args.pass.now) u t c.args.lines c.loop-number.invariant.trying c.in-Placed.number
    c.in-Placed.line (subst (λ (z : Claimed). IsClaimed u c.args.lines z t) c.in-Placed.is c.claim.ensures.claimed)

pub loop-number-preserved : goal.loop-number-preserved
loop-number-preserved c =
    let u = view c.loop-number.pass in
    let t = view c.claim.new.pass in
    record {
      of = c.claim.ensures.pass;
      trying = trying_more (view c.args.pass.now) u t c.args.lines c.loop-number.invariant.trying c.in-Void.number
          (subst (λ (z : Claimed). IsClaimed u c.args.lines z t) c.in-Void.is c.claim.ensures.claimed);
    }

pub loop-number-smaller : goal.loop-number-smaller
loop-number-smaller c =
    let u = view c.loop-number.pass in
    let t = view c.claim.new.pass in
    trying_falls (view c.args.pass.now) u t c.args.lines c.loop-number.invariant.trying c.in-Void.number
    c.args.log.now.key c.loop-number.invariant.of.about
    (subst (λ (z : Claimed). IsClaimed u c.args.lines z t) c.in-Void.is c.claim.ensures.claimed)

pub returns-in-Overflow-clause-shut : goal.returns-in-Overflow-clause-shut
returns-in-Overflow-clause-shut c =
    let u = view c.loop-number.pass in
    let t = view c.claim.new.pass in
    trying_shut (view c.args.pass.now) u t c.args.lines c.loop-number.invariant.trying c.in-Overflow.shut
    (subst (λ (z : Claimed). IsClaimed u c.args.lines z t) c.in-Overflow.is c.claim.ensures.claimed)
