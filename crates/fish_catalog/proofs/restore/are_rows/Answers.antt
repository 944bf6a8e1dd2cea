-- What holds of each row by its position holds of all.
use Rattle.std.proofs.Common.{arith, refl}
use Rattle.fish_catalog.proofs.Lookups.{all_rows, rows_more}
use Rattle.fish_catalog.proofs.restore.are_rows.Goals as goal

pub returns : goal.returns
returns c = ((λ _. all_rows c.args.rows.now (λ k less. c.loop-row.invariant k (omega arith))), λ _. refl)

pub loop-row-preserved : goal.loop-row-preserved
loop-row-preserved c =
    rows_more c.args.rows.now c.loop-row.row-index c.row-item.result c.loop-row-test.true c.row-item.is
    (c.in_ok-is_row.ensures.0 c.if-not-branch.false) c.loop-row.invariant
