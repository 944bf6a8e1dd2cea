-- One row more comes after the others.
use Rattle.std.proofs.Common.{arith, subst, All}
use Rattle.std.proofs.lemmas.Grind.{common_steps}
use Rattle.std.proofs.lemmas.List.{take_all}
use Rattle.std.proofs.lemmas.List.Elements.{All-more}
use Rattle.fish_image.specs.Commits.{HasTexts}
use Rattle.fish_image.proofs.slot.push_rows.Goals as goal

pub loop-row-preserved : goal.loop-row-preserved
loop-row-preserved c = record {
  rows = grind (arith, common_steps, c.in_ok-push_row.ensures.row, c.loop-row.invariant.rows);
  texts = All-more HasTexts c.args.rows.now c.loop-row.row-index c.row-item.result c.loop-row-test.true
      c.loop-row.invariant.texts (subst HasTexts c.row-item.is c.in_ok-push_row.ensures.texts);
}

pub returns-clause-texts : goal.returns-clause-texts
returns-clause-texts c =
    subst (All HasTexts) (take_all c.loop-row.row-index c.args.rows.now c.loop-row-test.false) c.loop-row.invariant.texts
