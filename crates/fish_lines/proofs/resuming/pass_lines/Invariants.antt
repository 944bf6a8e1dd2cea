-- So many lines less are left, from the bytes that were looked at last.
use Rattle.std.proofs.Common.{◌≡◌, ◌≤◌, drop, length}
use Rattle.fish_lines.specs.Left.{lines_left}
use Rattle.fish_lines.proofs.resuming.pass_lines.Given as goal

abbrev pub invariant-loop : goal.invariant-loop
invariant-loop l = record {
  within : length l.rest ≤ length l.fn.lines.rest.now;
  at : l.rest ≡ l.lines.rest.now;
  left_are : lines_left l.lines ≡ drop l.counter (lines_left l.fn.lines);
}
