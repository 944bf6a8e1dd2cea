-- The lines of what was prepared are in flight.
use Rattle.std.proofs.Common.{◌≡◌, ℕ, map, refl, sym, ap, ◌∙◌, subst, arith}
use Rattle.fish_claim.proofs.Bodies.{placed_law}
use Rattle.fish_ingest.proofs.PreparationDefs.{knows_active}
use Rattle.fish_ingest.proofs.PlacementBody.{body_fills}
use Rattle.fish_rule.proofs.laws.Versions.{entered_from}
use Rattle.fish_rule.specs.Keys.{text_of}
use Rattle.fish_rule.specs.Passes.{view}
use Rattle.fish_rule.specs.Registry.{KnowsActive}
use Rattle.fish_rule.specs.SpaceSteps.{flight_at}
use Rattle.fish_rule.specs.declared.view.Epoch.TheVariants.{Confirmed}
use Rattle.fish_rule.specs.declared.view.Key.{Key}
use Rattle.fish_rule.specs.declared.view.View.{View}
use Rattle.tests_log.proofs.flights.claimed.Goals as goal

-- so it may be written
pub returns-in-Placed-clause-placed : goal.returns-in-Placed-clause-placed
returns-in-Placed-clause-placed c =
    let v = view c.enter.new.pass in
    let u = view c.claim.new.pass in
    let entered = c.enter.ensures.entered in
    let lines : ℕ = c.lines-lines.result in
    let at = c.in-Placed in
    let placed = placed_law v u lines at.number at.line at.ensures.claimed in
    let made = c.in-Ok.ensures in
    let fills = body_fills made.0 in
    let counted = c.lines-lines.ensures in
    let about : u.about ≡ c.args.log.now.key = at.ensures.pass.about in
    let at_0 : c.enter.result ≡ 0 = omega arith in
    let epoch = ap (λ (z : View). z.epoch) placed.known ∙ entered.epoch ∙ ap Confirmed at_0 in
    let from = entered_from c.args.log.now.key u 0 about at.ensures.pass.stands epoch in (
      flight_at at.number at.line lines,
      record {
        flying = ap (λ (z : View). z.flight) placed.known;
        unfilled = refl;
        unlinked = refl;
        stored = placed.stored;
        lines = omega arith;
        fits = record {
          defs = c.args.defs.now;
          origin = _;
          payload = c.args.payload.now;
          made = made;
          active = subst (λ (k : Key). KnowsActive k u.learned 0 (map text_of c.args.defs.now)) (sym about)
              (knows_active c.args.log.now.key u.learned 0 c.args.defs.now (omega arith) (omega arith) c.requires.active);
          lane_is = c.lane-lane.ensures ∙ sym (ap (λ (z : View). z.lane) placed.known ∙ ap (λ (z : View). z.lane) entered.keeps.frame);
          entered = epoch;
        };
      },
    )
