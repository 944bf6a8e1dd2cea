-- The table allows the claim, and the region kept is the one that is in flight.
use Rattle.std.proofs.Common.{◌≡◌, ◌∙◌, sym, refl, ap, arith, subst, ℕ, ◌<◌, ◌+◌, ◌-◌, Some}
use Rattle.fish_rule.proofs.steps.ClaimLines.{claim_lines_allowed}
use Rattle.fish_rule.specs.Flying.{region_in}
use Rattle.fish_rule.specs.declared.table.Region.{Region}
use Rattle.fish_rule.specs.declared.view.View.{View}
use Rattle.fish_rule.proofs.space.claim_lines.Goals as goal

pub fetch_add-found-requires : goal.fetch_add-found-requires
fetch_add-found-requires c =
    let log = c.args.log.now in
    let seat = c.args.pass.now.seat in (
      c.requires.pass.table,
      subst (λ (z : ℕ). 0 < z) (sym log.wide) (omega arith),
      claim_lines_allowed log.table.shared.key log.key log.keyed log.table.shared.table_id.slots seat.id seat.me _
          c.args.lines c.requires.pass.about c.requires.view c.requires.lines.0 c.requires.lines.1 refl,
    )

pub invariant_of-pass : goal.invariant_of-pass
invariant_of-pass c =
    let told = c.fetch_add-found.ensures.2.told in
    let e : 68719476736 + c.args.lines - 68719476736 ≡ c.args.lines = omega arith in
    let at = c.position_in-number.ensures in
    record {
      bare = told.held ∙ c.args.pass.now.bare;
      lane_is = ap (λ (z : View). z.lane) told.view ∙ c.args.pass.now.lane_is;
      shut_is = ap (λ (z : View). z.shut) told.view ∙ c.args.pass.now.shut_is;
      flight_is = ap (λ (z : View). region_in z.flight) told.view
          ∙ ap (λ (z : ℕ × ℕ × ℕ). let q : Region = record { number = z.0; line = z.1; lines = z.2 } in Some q)
          (λ i. (sym at.number i, sym at.line i, e i));
    }
