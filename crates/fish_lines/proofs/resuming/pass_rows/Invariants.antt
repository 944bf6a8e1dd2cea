-- So many rows less are left, from the bytes that were looked at last.
use Rattle.std.proofs.Common.{◌≡◌, ◌≤◌, drop, length}
use Rattle.fish_csv.specs.Left.{rows_left}
use Rattle.fish_lines.proofs.resuming.pass_rows.Given as goal

abbrev pub invariant-loop : goal.invariant-loop
invariant-loop l = record {
  within : length l.rest ≤ length l.fn.rows.rest.now;
  at : l.rest ≡ l.rows.rest.now;
  left_are : rows_left l.rows ≡ drop l.counter (rows_left l.fn.rows);
}
