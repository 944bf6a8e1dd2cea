-- What was found so far, with what the lines that are left will give, is what the whole file gives; each line
-- takes a byte.
use Rattle.std.proofs.Common.{◌≡◌, ◌+◌, ◌≤◌, ◌++◌, length, map}
use Rattle.fish_json.specs.Lines.{line_outcomes, payload_of_line}
use Rattle.fish_value.specs.Outcomes.{accepted, refused}
use Rattle.fish_lines.specs.Left.{lines_left}
use Rattle.fish_lines.proofs.file.json_records.Given as goal

abbrev pub invariant-loop-line : goal.invariant-loop-line
invariant-loop-line l = record {
  payloads : l.found.payloads ++ accepted (map payload_of_line (lines_left l.lines)) ≡ accepted (line_outcomes l.b);
  refused_lines : l.found.refused + refused (map payload_of_line (lines_left l.lines)) ≡ refused (line_outcomes l.b);
  counted : l.found.refused + length l.lines.rest.now ≤ length l.b;
}

abbrev pub decreases-loop-line : goal.decreases-loop-line
decreases-loop-line l = length l.lines.rest.now
