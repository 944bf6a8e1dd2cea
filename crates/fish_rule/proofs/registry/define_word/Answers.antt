-- The table allows a store of a word of the next operation or row.
use Rattle.std.proofs.Common.{sym, arith, subst, ℕ, ◌<◌}
use Rattle.fish_rule.proofs.steps.DefineWord.{define_word_allowed}
use Rattle.fish_rule.proofs.laws.Versions.{define_law}
use Rattle.fish_rule.specs.Passes.{view}
use Rattle.fish_rule.proofs.registry.define_word.Goals as goal

pub store-requires : goal.store-requires
store-requires c =
    let log = c.args.log.now in
    let seat = c.args.pass.now.seat in
    let within = define_law log.key (view c.args.pass.now) c.args.index c.args.word c.requires.pass.about
    c.requires.pass.stands c.requires.view in (
      c.requires.pass.table,
      subst (λ (z : ℕ). c.args.index < z) (sym log.wide) (omega arith),
      define_word_allowed log.table.shared.key log.key log.keyed log.table.shared.table_id.slots seat.id seat.me
          c.args.index c.args.word c.requires.pass.about c.requires.view,
    )
