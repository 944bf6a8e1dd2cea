-- The own entry is within the log, and the table allows the store.
use Rattle.std.proofs.Common.{◌≡◌, ◌∙◌, sym, refl, ap, arith, ℕ, ◌+◌, ◌-◌, ◌*◌}
use Rattle.fish_rule.proofs.basics.Passes.{pass_still}
use Rattle.fish_rule.proofs.laws.Links.{aim_law}
use Rattle.fish_rule.proofs.steps.AimEntry.{region_aim, aim_entry_allowed}
use Rattle.fish_rule.specs.Flying.{region_in}
use Rattle.fish_rule.specs.ChainSteps.{own_place}
use Rattle.fish_rule.proofs.basics.Context.{Flight, View, view}
use Rattle.fish_rule.specs.World.{log_at}
use Rattle.fish_rule.proofs.linking.aim_entry.Goals as goal

pub word_index-index-requires : goal.word_index-index-requires
word_index-index-requires c =
    let f : Flight = c.requires.view.0 in
    let law = aim_law c.args.log.now.key
    (view c.args.pass.now) f c.requires.pass.about c.requires.pass.stands c.requires.view.1 in
    let place : c.args.place ≡ own_place f = c.requires.view.2 in
    (omega (arith, law.0), omega (arith, law.1))

pub store-requires : goal.store-requires
store-requires c =
    let log = c.args.log.now in
    let seat = c.args.pass.now.seat in (
      c.requires.pass.table,
      c.word_index-index.ensures.within,
      aim_entry_allowed log.table.shared.key log.key log.keyed log.table.shared.table_id.slots seat.id seat.me
          c.requires.view.0 _ c.args.previous c.requires.pass.about c.requires.view.1
          (c.word_index-index.ensures.is ∙ ap (λ (z : ℕ). log_at log.key + (z - log.key.line * 4)) c.requires.view.2),
    )

pub invariant_of-pass : goal.invariant_of-pass
invariant_of-pass c =
    let f : Flight = c.requires.view.0 in
    let told = c.store.ensures.2 f c.requires.view.1.flying in
    record {
      bare = told.held ∙ c.args.pass.now.bare;
      lane_is = ap (λ (z : View). z.lane) told.view ∙ refl ∙ c.args.pass.now.lane_is;
      shut_is = ap (λ (z : View). z.shut) told.view ∙ refl ∙ c.args.pass.now.shut_is;
      flight_is = ap (λ (z : View). region_in z.flight) told.view ∙ region_aim f c.args.previous
          ∙ ap region_in (sym c.requires.view.1.flying) ∙ c.args.pass.now.flight_is;
    }

pub returns-clause-pass : goal.returns-clause-pass
returns-clause-pass c =
    let told = c.store.ensures.2 c.requires.view.0 c.requires.view.1.flying in
    pass_still c.requires.pass c.store.ensures.0 told.view told.stands refl refl
