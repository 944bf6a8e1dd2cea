-- What was found, and what the rows that are left give, is what all rows give; each row took a byte at least.
use Rattle.std.proofs.Common.{◌≡◌, ◌≤◌, ◌+◌, ◌++◌, length}
use Rattle.fish_csv.specs.Left.{rows_left}
use Rattle.fish_value.specs.Outcomes.{accepted, refused}
use Rattle.fish_value.specs.Limits.{longest_file}
use Rattle.fish_csv.proofs.file.all_rows.Given as goal

abbrev pub invariant-loop-found : goal.invariant-loop-found
invariant-loop-found l = record {
  texts : accepted (rows_left l.fn.texts) ≡ l.found.texts ++ accepted (rows_left l.texts);
  refused : refused (rows_left l.fn.texts) ≡ l.found.refused + refused (rows_left l.texts);
  small : l.found.refused + length l.texts.rest.now ≤ longest_file;
}

abbrev pub decreases-loop-found : goal.decreases-loop-found
decreases-loop-found l = length l.texts.rest.now
