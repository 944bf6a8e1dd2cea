-- The entry is within the log, and its second word with it.
use Rattle.std.proofs.Common.{◌∙◌, ap, arith, ℕ, ◌-◌}
use Rattle.fish_rule.proofs.steps.LoadNode.{load_node_allowed}
use Rattle.fish_rule.proofs.laws.Links.{second_law}
use Rattle.fish_rule.specs.ChainSteps.{after_load_node}
use Rattle.fish_rule.proofs.basics.Context.{Key, view}
use Rattle.fish_rule.specs.Told.{place_at}
use Rattle.fish_rule.proofs.linking.load_node.Goals as goal

pub overflow_add-place : goal.overflow_add-place
overflow_add-place c =
    let n = c.requires.node in
    let law = second_law c.args.log.now.key
    (view c.args.pass.now) n.0 c.args.place c.requires.pass.about c.requires.pass.stands n.1 in
    let low_end = c.args.log.now.fits.low_end in
    omega (arith, law.1)

pub word_index-index-requires : goal.word_index-index-requires
word_index-index-requires c =
    let n = c.requires.node in
    let law = second_law c.args.log.now.key
    (view c.args.pass.now) n.0 c.args.place c.requires.pass.about c.requires.pass.stands n.1 in
    (omega (arith, law.0), omega (arith, law.1))

pub load-requires : goal.load-requires
load-requires c =
    let log = c.args.log.now in
    let seat = c.args.pass.now.seat in
    let n = c.requires.node in
    let is = c.word_index-index.ensures.is in (
      c.requires.pass.table,
      c.word_index-index.ensures.within,
      load_node_allowed log.table.shared.key log.key log.keyed log.table.shared.table_id.slots seat.id seat.me
          n.0 c.args.place _ c.requires.pass.about n.1 (omega arith),
    )

pub returns-clause-view : goal.returns-clause-view
returns-clause-view c =
    let v = view c.args.pass.now in
    let back = c.word_index-index.ensures.back in
    c.load.ensures.2.view ∙ ap (λ (z : Key). after_load_node v (place_at z c.word_index-index.result - 1) c.load.result)
    c.requires.pass.about ∙ ap (λ (z : ℕ). after_load_node v z c.load.result) (omega arith)
