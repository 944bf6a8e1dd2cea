-- The row that was read is written, and what was written is its payload.
use Rattle.std.proofs.Common.{sym, ap, ◌∙◌}
use Rattle.csv.specs.Records.{fields_of}
use Rattle.fish_csv.specs.Rows.{kept, payload_of_row}
use Rattle.fish_csv.proofs.file.Store.next_quoted.Goals as goal

pub returns : goal.returns
unfolding payload_of_row
returns c =
    let read = rw c.in-Some.is at c.in_ok-rest.ensures in (
      fields_of c.read_row.new.row,
      read.0,
      ap kept (sym (c.as_slice.ensures.value ∙ c.in_ok-write_row.ensures))
          ∙ sym c.in_ok-outcome.ensures,
      read.1,
    )
