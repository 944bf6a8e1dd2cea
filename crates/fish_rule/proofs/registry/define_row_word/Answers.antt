-- The word is one of the table's.
use Rattle.std.proofs.Common.{arith}
use Rattle.fish_rule.proofs.laws.Versions.{define_law}
use Rattle.fish_rule.specs.Passes.{view}
use Rattle.fish_rule.specs.Registry.{row_at}
use Rattle.fish_rule.proofs.registry.define_row_word.Goals as goal

pub overflow_mul-id : goal.overflow_mul-id
overflow_mul-id c =
    let within = define_law c.args.log.now.key (view c.args.pass.now) (row_at c.args.id c.args.place) c.args.word
    c.requires.pass.about c.requires.pass.stands c.requires.view in
    omega arith

pub overflow_add-id : goal.overflow_add-id
overflow_add-id c =
    let within = define_law c.args.log.now.key (view c.args.pass.now) (row_at c.args.id c.args.place) c.args.word
    c.requires.pass.about c.requires.pass.stands c.requires.view in
    omega arith

pub overflow_add-id-2 : goal.overflow_add-id-2
overflow_add-id-2 c =
    let within = define_law c.args.log.now.key (view c.args.pass.now) (row_at c.args.id c.args.place) c.args.word
    c.requires.pass.about c.requires.pass.stands c.requires.view in
    omega arith
