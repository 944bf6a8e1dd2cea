-- A text was read as one row, or as none.
use Rattle.fish_csv.specs.Contents.{fields_in}
use Rattle.fish_csv.proofs.Readings.{read_none, read_some, row_of_none}
use Rattle.fish_csv.proofs.Texts.{found-texts}
use Rattle.fish_csv.proofs.record.CsvRecord.read.Goals as goal

pub invariant_of-result : goal.invariant_of-result
invariant_of-result c =
    record {
      texts = found-texts c.args.b.now c.in_ok-text.text.now _ c.in_ok-read_one.field-0
          c.in_ok-text.ensures.ok.0 c.in_ok-text.ensures.ok.1 c.in_ok-read_one.ensures c.if-not-branch.false;
    }

pub returns-then-not-branch-clause-not_row : goal.returns-then-not-branch-clause-not_row
returns-then-not-branch-clause-not_row c =
    λ _. (
      c.in_ok-text.ensures.ok.2,
      read_none c.args.b.now c.in_ok-text.text.now _ c.in_ok-read_one.field-0 c.in_ok-text.ensures.ok.0
          c.in_ok-text.ensures.ok.1 c.in_ok-read_one.ensures c.if-not-branch.true,
    )

pub returns-then-not-branch-clause-none : goal.returns-then-not-branch-clause-none
returns-then-not-branch-clause-none c =
    λ _. row_of_none c.args.b.now
    (read_none c.args.b.now c.in_ok-text.text.now _ c.in_ok-read_one.field-0 c.in_ok-text.ensures.ok.0
    c.in_ok-text.ensures.ok.1 c.in_ok-read_one.ensures c.if-not-branch.true)

pub returns-clause-ok : goal.returns-clause-ok
unfolding fields_in
returns-clause-ok c =
    read_some c.args.b.now c.in_ok-text.text.now _ c.in_ok-read_one.field-0 c.in_ok-text.ensures.ok.0
    c.in_ok-text.ensures.ok.1 c.in_ok-text.ensures.ok.2 c.in_ok-read_one.ensures c.if-not-branch.false
