-- The entry is within the log, and of one bucket.
use Rattle.std.proofs.Common.{◌≡◌, ◌∙◌, ap, subst, ℕ, ◌<◌, ◌≤◌, ◌*◌}
use Rattle.fish_rule.proofs.laws.Links.{node_law, one_bucket}
use Rattle.fish_rule.specs.ChainSteps.{HasNode, PreviousRises, after_load_previous}
use Rattle.fish_rule.specs.Parts.{first_head}
use Rattle.fish_rule.proofs.basics.Context.{Key, view}
use Rattle.fish_rule.specs.Told.{place_at}
use Rattle.fish_rule.proofs.steps.LoadPrevious.{load_previous_allowed}
use Rattle.fish_rule.proofs.linking.load_previous.Goals as goal

pub word_index-index-requires : goal.word_index-index-requires
word_index-index-requires c =
    let n = c.requires.node in
    node_law c.args.log.now.key (view c.args.pass.now) n.0 c.args.place c.requires.pass.about c.requires.pass.stands n.1

pub load-requires : goal.load-requires
load-requires c =
    let log = c.args.log.now in
    let seat = c.args.pass.now.seat in
    let n = c.requires.node in (
      c.requires.pass.table,
      c.word_index-index.ensures.within,
      load_previous_allowed log.table.shared.key log.key log.keyed log.table.shared.table_id.slots seat.id seat.me
          n.0 c.args.place _ c.requires.pass.about n.1 c.word_index-index.ensures.is,
    )

pub returns-clause-view : goal.returns-clause-view
returns-clause-view c b node =
    let v = view c.args.pass.now in
    let told = c.load.ensures.2 in
    let at = ap (λ (z : Key). place_at z c.word_index-index.result) c.requires.pass.about ∙ c.word_index-index.ensures.back in
    let same : told.bucket ≡ b = one_bucket v told.bucket b c.args.place c.requires.pass.stands
    (subst (HasNode v told.bucket) at told.node) node in
    told.told.view ∙ ap (λ (z : ℕ × ℕ). after_load_previous v z.0 z.1 c.load.result) (λ i. (same i, at i))

pub returns-clause-rises : goal.returns-clause-rises
returns-clause-rises c =
    subst (λ (z : ℕ). PreviousRises (view c.args.pass.now) z c.load.result)
    (ap (λ (z : Key). place_at z c.word_index-index.result) c.requires.pass.about ∙ c.word_index-index.ensures.back)
    c.load.ensures.2.rises

pub returns-clause-less : goal.returns-clause-less
returns-clause-less c =
    subst (λ (z : ℕ). c.load.result < z)
    (ap (λ (z : Key). place_at z c.word_index-index.result) c.requires.pass.about ∙ c.word_index-index.ensures.back)
    c.load.ensures.2.less

-- a place that is none of the table's is the start's head of the bucket
pub returns-clause-first : goal.returns-clause-first
returns-clause-first c b node =
    let v = view c.args.pass.now in
    let told = c.load.ensures.2 in
    let at = ap (λ (z : Key). place_at z c.word_index-index.result) c.requires.pass.about ∙ c.word_index-index.ensures.back in
    let same : told.bucket ≡ b = one_bucket v told.bucket b c.args.place c.requires.pass.stands
    (subst (HasNode v told.bucket) at told.node) node in
    subst (λ (z : Key × ℕ). c.load.result ≤ z.0.line * 4 → c.load.result ≡ first_head z.0 z.1)
    (λ i. (c.requires.pass.about i, same i)) told.first
