-- A text was read as one row, or as none.
use Rattle.std.proofs.Common.{◌≡◌, None, rules}
use Rattle.fish_csv.specs.Reading.{row_reading}
use Rattle.fish_csv.specs.Row.{row_fields}
use Rattle.fish_csv.proofs.Readings.{read_none, read_some, row_of_none}
use Rattle.fish_csv.proofs.Texts.{found-texts}
use Rattle.fish_csv.proofs.reader.CsvReader.read.Goals as goal

pub invariant_of-result : goal.invariant_of-result
invariant_of-result c =
    record {
      texts = found-texts c.args.b.now c.in_ok-text.text.now _ c.in_ok-read_one.field-0
          c.in_ok-text.ensures.ok.0 c.in_ok-text.ensures.ok.1 c.in_ok-read_one.ensures c.if-not-branch.false;
    }

pub returns-then-not-branch : goal.returns-then-not-branch
returns-then-not-branch c =
    let none : row_reading c.args.b.now ≡ None =
    read_none c.args.b.now c.in_ok-text.text.now _ c.in_ok-read_one.field-0 c.in_ok-text.ensures.ok.0
    c.in_ok-text.ensures.ok.1 c.in_ok-read_one.ensures c.if-not-branch.true in
    record {
      ok = tt;
      length = tt;
      too_long = search rules;
      not_row = λ _. (c.in_ok-text.ensures.ok.2, none);
      none = λ _. row_of_none c.args.b.now none;
    }

pub returns : goal.returns
unfolding row_fields
returns c = record {
  ok = read_some c.args.b.now c.in_ok-text.text.now _ c.in_ok-read_one.field-0 c.in_ok-text.ensures.ok.0
      c.in_ok-text.ensures.ok.1 c.in_ok-text.ensures.ok.2 c.in_ok-read_one.ensures c.if-not-branch.false;
  length = c.in_ok-text.ensures.ok.2;
  too_long = search rules;
  not_row = search rules;
  none = tt;
}
