-- The head is one of the table's words, and the table allows the exchange.
use Rattle.std.proofs.Common.{◌≡◌, ◌∙◌, sym, refl, ap, arith, subst, ℕ, ◌<◌, ◌+◌}
use Rattle.fish_rule.proofs.basics.Passes.{pass_still}
use Rattle.fish_rule.proofs.steps.SwingHead.{region_swing, swing_about, swing_lane, swing_shut, swing_head_allowed}
use Rattle.fish_rule.specs.Flying.{region_in}
use Rattle.fish_rule.specs.ChainSteps.{HeadRises, after_swing_head}
use Rattle.fish_rule.specs.Told.{bucket_at}
use Rattle.fish_rule.proofs.basics.Context.{Flight, Key, View, view}
use Rattle.fish_rule.specs.World.{heads_at}
use Rattle.fish_rule.proofs.linking.swing_head.Goals as goal

pub compare_exchange-requires : goal.compare_exchange-requires
compare_exchange-requires c =
    let log = c.args.log.now in
    let seat = c.args.pass.now.seat in
    let f : Flight = c.requires.view.0 in
    let can = c.requires.view.1 in
    let below : c.args.bucket < log.key.buckets =
    subst (λ (z : Key). c.args.bucket < z.buckets) c.requires.pass.about can.below in (
      c.requires.pass.table,
      subst (λ (z : ℕ). heads_at + c.args.bucket < z) (sym log.wide) (omega arith),
      swing_head_allowed log.table.shared.key log.key log.keyed log.table.shared.table_id.slots seat.id seat.me f
          c.args.bucket c.args.expected _ c.args.place c.requires.pass.about can refl c.requires.view.2,
    )

pub invariant_of-pass : goal.invariant_of-pass
invariant_of-pass c =
    let f : Flight = c.requires.view.0 in
    let told = c.compare_exchange.ensures.2.told f c.requires.view.1.aim.flying in
    record {
      bare = told.held ∙ c.args.pass.now.bare;
      lane_is = ap (λ (z : View). z.lane) told.view
          ∙ swing_lane (view c.args.pass.now) f _ c.args.expected c.compare_exchange.result ∙ c.args.pass.now.lane_is;
      shut_is = ap (λ (z : View). z.shut) told.view
          ∙ swing_shut (view c.args.pass.now) f _ c.args.expected c.compare_exchange.result ∙ c.args.pass.now.shut_is;
      flight_is = ap (λ (z : View). region_in z.flight) told.view
          ∙ region_swing
          (view c.args.pass.now) f _ c.args.expected c.compare_exchange.result c.requires.view.1.aim.flying
          ∙ ap region_in (sym c.requires.view.1.aim.flying) ∙ c.args.pass.now.flight_is;
    }

pub returns-clause-pass : goal.returns-clause-pass
returns-clause-pass c =
    let f : Flight = c.requires.view.0 in
    let told = c.compare_exchange.ensures.2.told f c.requires.view.1.aim.flying in
    pass_still c.requires.pass c.compare_exchange.ensures.0 told.view told.stands
    (swing_about (view c.args.pass.now) f _ c.args.expected c.compare_exchange.result)
    (swing_lane (view c.args.pass.now) f _ c.args.expected c.compare_exchange.result)

pub returns-clause-view : goal.returns-clause-view
returns-clause-view c f flying =
    let index : bucket_at (heads_at + c.args.bucket) ≡ c.args.bucket = omega arith in
    (c.compare_exchange.ensures.2.told f flying).view
    ∙ ap (λ (z : ℕ). after_swing_head (view c.args.pass.now) f z c.args.expected c.compare_exchange.result) index

pub returns-clause-rises : goal.returns-clause-rises
returns-clause-rises c =
    (let index : bucket_at (heads_at + c.args.bucket) ≡ c.args.bucket = omega arith in
    subst (λ (z : ℕ). HeadRises
    (view c.args.pass.now) z c.compare_exchange.result) index c.compare_exchange.ensures.2.rises)
