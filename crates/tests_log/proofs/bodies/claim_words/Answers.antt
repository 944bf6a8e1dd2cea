-- The record was made for the place.
use Rattle.std.proofs.Common.{sym, ap, ◌∙◌, arith, refl}
use Rattle.fish_claim.proofs.Bodies.{body_law, placed_law}
use Rattle.fish_rule.proofs.laws.Versions.{entered_from}
use Rattle.fish_rule.specs.Passes.{view}
use Rattle.fish_rule.specs.SpaceSteps.{flight_at}
use Rattle.fish_rule.specs.declared.view.Epoch.TheVariants.{Confirmed}
use Rattle.fish_rule.specs.declared.view.Key.{Key}
use Rattle.fish_rule.specs.declared.view.View.{View}
use Rattle.tests_log.proofs.bodies.claim_words.Goals as goal

pub returns-clause-words : goal.returns-clause-words
returns-clause-words c =
    let p = c.in_ok-body.ensures in
    let place = c.in-Placed in
    let v = view c.enter.new.pass in
    let u = view c.claim-answer.new.pass in
    let entered = c.enter.ensures.entered in
    let rows = ap (λ (z : Key). z.rows.value) c.enter.ensures.pass.about ∙ c.requires.rows in
    let epoch = entered.epoch ∙ ap Confirmed c.if-enter-ne0.false in
    let from = entered_from v.about v 0 refl c.enter.ensures.pass.stands epoch in
    let plain = p.1 v (ap (λ (z : View). z.lane) entered.keeps.frame ∙ sym c.lane-lane.ensures) epoch (omega arith) rows in
    record {
      flight = flight_at place.number place.line c.args.lines;
      can = body_law v u c.args.lines place.number place.line p.0 c.in_ok-body.body
          (placed_law v u c.args.lines place.number place.line place.ensures.claimed) plain p.3;
      parts = p.0;
      is = p.3;
      plain = p.2;
    }
