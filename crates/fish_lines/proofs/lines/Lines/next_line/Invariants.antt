-- Blank lines were passed over, which count nowhere.
use Rattle.std.proofs.Common.{◌≡◌, ◌≤◌, length}
use Rattle.fish_lines.specs.Left.{lines_left}
use Rattle.fish_lines.proofs.lines.Lines.next_line.Given as goal

abbrev pub invariant-loop-line : goal.invariant-loop-line
invariant-loop-line l = record {
  same : lines_left l.self ≡ lines_left l.fn.self;
  within : length l.self.rest.now ≤ length l.fn.self.rest.now;
}

abbrev pub decreases-loop-line : goal.decreases-loop-line
decreases-loop-line l = length l.self.rest.now
