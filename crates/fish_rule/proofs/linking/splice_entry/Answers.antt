-- The higher entry is within the log, and the table allows the exchange.
use Rattle.std.proofs.Common.{◌≡◌, ◌∙◌, sym, ap, subst, ℕ, ◌<◌}
use Rattle.fish_rule.proofs.basics.Passes.{pass_still}
use Rattle.fish_rule.proofs.laws.Links.{node_law, one_bucket}
use Rattle.fish_rule.proofs.steps.SpliceEntry.{region_splice, splice_about, splice_lane, splice_shut}
use Rattle.fish_rule.proofs.steps.SpliceEntry.{splice_entry_allowed}
use Rattle.fish_rule.specs.Flying.{region_in}
use Rattle.fish_rule.specs.ChainSteps.{HasNode, PreviousRises, after_splice_entry}
use Rattle.fish_rule.proofs.basics.Context.{Flight, Key, View, view}
use Rattle.fish_rule.specs.Told.{place_at}
use Rattle.fish_rule.proofs.linking.splice_entry.Goals as goal

pub word_index-index-requires : goal.word_index-index-requires
word_index-index-requires c =
    node_law c.args.log.now.key (view c.args.pass.now) c.requires.view.1.0 c.args.above c.requires.pass.about
    c.requires.pass.stands c.requires.view.1.1.node

pub compare_exchange-requires : goal.compare_exchange-requires
compare_exchange-requires c =
    let log = c.args.log.now in
    let seat = c.args.pass.now.seat in (
      c.requires.pass.table,
      c.word_index-index.ensures.within,
      splice_entry_allowed log.table.shared.key log.key log.keyed log.table.shared.table_id.slots seat.id seat.me
          c.requires.view.0 c.requires.view.1.0 c.args.above c.args.expected _ c.args.place c.requires.pass.about
          c.requires.view.1.1 c.word_index-index.ensures.is c.requires.view.1.2,
    )

pub invariant_of-pass : goal.invariant_of-pass
invariant_of-pass c =
    let f : Flight = c.requires.view.0 in
    let can = c.requires.view.1.1 in
    let told = c.compare_exchange.ensures.2.told f can.aim.flying in
    record {
      bare = told.held ∙ c.args.pass.now.bare;
      lane_is = ap (λ (z : View). z.lane) told.view
          ∙ splice_lane (view c.args.pass.now) f _ _ c.args.expected c.compare_exchange.result
          ∙ c.args.pass.now.lane_is;
      shut_is = ap (λ (z : View). z.shut) told.view
          ∙ splice_shut (view c.args.pass.now) f _ _ c.args.expected c.compare_exchange.result
          ∙ c.args.pass.now.shut_is;
      flight_is = ap (λ (z : View). region_in z.flight) told.view
          ∙ region_splice (view c.args.pass.now) f _ _ c.args.expected c.compare_exchange.result can.aim.flying
          ∙ ap region_in (sym can.aim.flying) ∙ c.args.pass.now.flight_is;
    }

pub returns-clause-pass : goal.returns-clause-pass
returns-clause-pass c =
    let f : Flight = c.requires.view.0 in
    let can = c.requires.view.1.1 in
    let told = c.compare_exchange.ensures.2.told f can.aim.flying in
    pass_still c.requires.pass c.compare_exchange.ensures.0 told.view told.stands
    (splice_about (view c.args.pass.now) f _ _ c.args.expected c.compare_exchange.result)
    (splice_lane (view c.args.pass.now) f _ _ c.args.expected c.compare_exchange.result)

pub returns-clause-view : goal.returns-clause-view
returns-clause-view c f b flying node =
    let v = view c.args.pass.now in
    let told = c.compare_exchange.ensures.2 in
    let at = ap (λ (z : Key). place_at z c.word_index-index.result) c.requires.pass.about ∙ c.word_index-index.ensures.back in
    let same : told.bucket ≡ b = one_bucket v told.bucket b c.args.above c.requires.pass.stands
    (subst (HasNode v told.bucket) at told.node) node in
    (told.told f flying).view ∙ ap (λ (z : ℕ × ℕ). after_splice_entry v f z.0 z.1 c.args.expected c.compare_exchange.result)
    (λ i. (same i, at i))

pub returns-clause-rises : goal.returns-clause-rises
returns-clause-rises c =
    subst (λ (z : ℕ). PreviousRises (view c.args.pass.now) z c.compare_exchange.result)
    (ap (λ (z : Key). place_at z c.word_index-index.result) c.requires.pass.about ∙ c.word_index-index.ensures.back)
    c.compare_exchange.ensures.2.rises

pub returns-clause-less : goal.returns-clause-less
returns-clause-less c =
    subst (λ (z : ℕ). c.compare_exchange.result < z)
    (ap (λ (z : Key). place_at z c.word_index-index.result) c.requires.pass.about ∙ c.word_index-index.ensures.back)
    c.compare_exchange.ensures.2.less
