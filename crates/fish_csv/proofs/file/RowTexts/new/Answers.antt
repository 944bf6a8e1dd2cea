-- The rows of a file are those of its text without a byte order mark at its front.
use Rattle.std.proofs.Common.{◌∙◌, ap, arith, length, map}
use Rattle.fish_csv.specs.Left.{rows_left}
use Rattle.fish_csv.specs.Reading.{rows_in}
use Rattle.fish_csv.specs.Rows.{row_outcomes, row_outcomes_of, payload_of_row}
use Rattle.fish_csv.proofs.Marks.{strip-length}
use Rattle.fish_csv.proofs.file.RowTexts.new.Goals as goal

pub returns-clause-rows : goal.returns-clause-rows
unfolding rows_left row_outcomes
returns-clause-rows c =
    ap (map payload_of_row) c.in_ok-rest.ensures.rows ∙ ap (row_outcomes_of c.args.header) (ap rows_in c.without_mark.ensures)

pub returns-clause-within : goal.returns-clause-within
returns-clause-within c = let a = strip-length c.args.b.now in let b = ap length c.without_mark.ensures in
    let d = c.in_ok-rest.ensures.within in omega arith
