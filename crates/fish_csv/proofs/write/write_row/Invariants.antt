-- The fields before this position were written, with the commas between them.
use Rattle.std.proofs.Common.{◌≡◌, ◌≤◌, ◌-◌, length, take}
use Rattle.csv.specs.Records.{fields_of}
use Rattle.csv.specs.Writing.{default_writer, row_body}
use Rattle.fish_csv.proofs.write.write_row.Given as goal

abbrev pub invariant-loop-field : goal.invariant-loop-field
invariant-loop-field l = record {
  within : l.position ≤ length (fields_of l.row);
  written : l.out.items ≡ row_body default_writer (take l.position (fields_of l.row));
}

abbrev pub decreases-loop-field : goal.decreases-loop-field
decreases-loop-field l = length (fields_of l.row) - l.position
