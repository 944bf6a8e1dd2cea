-- The entries of one definition more went after the others.
use Rattle.std.proofs.Common.{All, List, subst, sym}
use Rattle.fish_lang.specs.Definition.{definition_of}
use Rattle.fish_value.specs.declared.value.Value.{Value}
use Rattle.fish_ingest.proofs.PreparationKeys.{entries_more, values_short}
use Rattle.fish_ingest.specs.within.Preparation.{AreMore, IsShortValue}
use Rattle.fish_ingest.proofs.preparation.entries_of.Goals as goal

pub push_given-requires : goal.push_given-requires
push_given-requires g c = subst (All IsShortValue) (sym c.in_ok-evaluate.ensures)
    (values_short (definition_of c.active-item.result.def) (g.R.Parsed.fields c.args.found.now))

pub loop-active-preserved : goal.loop-active-preserved
loop-active-preserved g c =
    let d = c.active-item.result in
    entries_more (g.R.Parsed.fields c.args.found.now) c.args.defs.now c.loop-active.active-index d c.loop-active.keys
    c.push_given.new.keys c.loop-active-test.true c.active-item.is
    (subst (λ (vs : List Value). AreMore d.id vs c.loop-active.keys c.push_given.new.keys) c.in_ok-evaluate.ensures
    c.in_ok-push_given.ensures) c.loop-active.invariant
