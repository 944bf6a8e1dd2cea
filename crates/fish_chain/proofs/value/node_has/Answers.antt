-- The value's kind and bytes are compared with those of the words, and both say which value it is.
use Rattle.std.proofs.Common.{rules, refl}
use Rattle.fish_chain.proofs.Values.{bytes_64, size_64, within_64, value_said, value_unsaid}
use Rattle.fish_rule.specs.Passes.{view}
use Rattle.fish_value.specs.declared.value.Value.TheVariants as kind
use Rattle.fish_chain.proofs.value.node_has.Goals as goal

pub returns-in-Bool-clause-has : goal.returns-in-Bool-clause-has
returns-in-Bool-clause-has g c has = (
  (c.has_bytes.ensures.has has).0,
  value_said (view c.args.pass.now) (view c.has_bytes.new.pass) c.args.node.now (kind.Bool c.in-Bool.truth) c.args.value.now _ _
      c.requires.node c.has_bytes.ensures.extends.learns c.in-Bool.is tt refl (search rules) (c.has_bytes.ensures.has has).1,
)

pub returns-in-Bool-clause-lacks : goal.returns-in-Bool-clause-lacks
returns-in-Bool-clause-lacks g c lacks =
    value_unsaid (view c.has_bytes.new.pass) c.args.node.now.number c.args.node.now.key (kind.Bool c.in-Bool.truth) c.args.value.now _ _
    c.in-Bool.is refl (search rules) (c.has_bytes.ensures.lacks lacks)

pub returns-in-Int-clause-has : goal.returns-in-Int-clause-has
returns-in-Int-clause-has g c has =
    let fits = size_64 c.in-Int.number c.number-in-Int-1.given in (
      (c.has_bytes-in-Int.ensures.has has).0,
      value_said (view c.args.pass.now) (view c.has_bytes-in-Int.new.pass) c.args.node.now (kind.Int c.in-Int.number)
          c.args.value.now _ _
          c.requires.node c.has_bytes-in-Int.ensures.extends.learns c.in-Int.is (within_64 c.in-Int.number fits) refl
          (bytes_64 c.in-Int.number _ fits c.to_le_bytes.ensures) (c.has_bytes-in-Int.ensures.has has).1,
    )

pub returns-in-Int-clause-lacks : goal.returns-in-Int-clause-lacks
returns-in-Int-clause-lacks g c lacks =
    let fits = size_64 c.in-Int.number c.number-in-Int-1.given in
    value_unsaid (view c.has_bytes-in-Int.new.pass) c.args.node.now.number c.args.node.now.key (kind.Int c.in-Int.number)
    c.args.value.now _ _ c.in-Int.is refl (bytes_64 c.in-Int.number _ fits c.to_le_bytes.ensures)
    (c.has_bytes-in-Int.ensures.lacks lacks)

pub returns-in-Text-clause-has : goal.returns-in-Text-clause-has
returns-in-Text-clause-has g c has = (
  (c.has_bytes-in-Text.ensures.has has).0,
  value_said (view c.args.pass.now) (view c.has_bytes-in-Text.new.pass) c.args.node.now (kind.Text c.in-Text.text)
      c.args.value.now _ _
      c.requires.node c.has_bytes-in-Text.ensures.extends.learns c.in-Text.is tt refl (search rules)
      (c.has_bytes-in-Text.ensures.has has).1,
)

pub returns-in-Text-clause-lacks : goal.returns-in-Text-clause-lacks
returns-in-Text-clause-lacks g c lacks =
    value_unsaid (view c.has_bytes-in-Text.new.pass) c.args.node.now.number c.args.node.now.key (kind.Text c.in-Text.text)
    c.args.value.now _ _ c.in-Text.is refl (search rules) (c.has_bytes-in-Text.ensures.lacks lacks)
