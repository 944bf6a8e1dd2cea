-- Each word is the next one of the row.
use Rattle.std.proofs.Common.{ℕ, ◌+◌, ◌<◌, slice_index, sym, refl, subst}
use Rattle.fish_registry.proofs.Drafts.{can_draft, drafted_next, drafted_none}
use Rattle.fish_registry.specs.within.Rows.{HasDrafted}
use Rattle.fish_rule.specs.Registry.{row_at}
use Rattle.fish_rule.specs.RegistrySteps.{CanDefineWord, after_define_word}
use Rattle.fish_rule.specs.Passes.{view}
use Rattle.fish_registry.proofs.rows.define_row.Goals as goal

-- it may be stored
pub define_row_word-requires-clause-view : goal.define_row_word-requires-clause-view
define_row_word-requires-clause-view c =
    let u = view c.loop-position.pass in
    let position : ℕ = c.loop-position.position in
    let word : ℕ = slice_index c.args.words.now position in
    subst (λ (n : ℕ). CanDefineWord u (row_at n position) word) (sym c.requires.id)
    (can_draft (view c.args.pass.now) u c.args.words.now position word c.requires.control
    (subst (λ (n : ℕ). n < 256) c.requires.id c.requires.room)
    c.loop-position.auto.position c.loop-position-test.true c.loop-position.invariant.1)

-- and then one word more is stored
pub loop-position-preserved : goal.loop-position-preserved
loop-position-preserved c =
    let v = view c.args.pass.now in
    let u = view c.loop-position.pass in
    let words = c.args.words.now in
    let position : ℕ = c.loop-position.position in
    let word : ℕ = slice_index words position in (
      c.define_row_word.ensures.pass,
      subst (HasDrafted v words (position + 1)) (sym c.define_row_word.ensures.view)
          (subst (λ (n : ℕ). HasDrafted v words (position + 1) (after_define_word u (row_at n position) word))
          (sym c.requires.id) (drafted_next v u words position word c.loop-position.auto.position c.loop-position-test.true
          c.loop-position.invariant.1 refl)),
    )

-- at first none is stored
pub loop-position-init : goal.loop-position-init
loop-position-init c = (c.requires.pass, drafted_none (view c.args.pass.now) c.args.words.now)
