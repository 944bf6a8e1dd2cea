-- The first row of the text is the one that goes on from here.
use Rattle.std.proofs.Common.{◌≡◌, ◌≤◌, [], length}
use Rattle.csv.specs.Records.{fields_of, partial_of}
use Rattle.fish_csv.specs.within.Machine.{row_from}
use Rattle.fish_csv.specs.declared.machine.Position.TheVariants as position
use Rattle.fish_csv.proofs.machine.read_row.Given as goal

abbrev pub invariant-loop-c : goal.invariant-loop-c
invariant-loop-c l = record {
  within : length l.rest ≤ length l.fn.b;
  whole : partial_of l.row ≡ [];
  same : row_from position.Row [] [] l.fn.b ≡ row_from l.position (fields_of l.row) l.field.items l.rest;
}

abbrev pub decreases-loop-c : goal.decreases-loop-c
decreases-loop-c l = length l.rest
