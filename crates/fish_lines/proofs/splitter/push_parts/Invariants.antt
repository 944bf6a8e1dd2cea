-- The lines so far, with those that the rest will give, are those of the whole.
use Rattle.std.proofs.Common.{◌≡◌, ◌++◌, length}
use Rattle.std.specs.List.{slice_split}
use Rattle.fish_json.specs.Lines.{is_line_end}
use Rattle.fish_lines.specs.Lines.{ended_parts, given_of, last_part}
use Rattle.fish_lines.proofs.splitter.push_parts.Given as goal

abbrev pub invariant-loop-part : goal.invariant-loop-part
invariant-loop-part l = record {
  given : l.lines.items ++ given_of (ended_parts (slice_split is_line_end l.rest))
      ≡ l.fn.lines.items ++ given_of (ended_parts (slice_split is_line_end l.b));
  last : last_part (slice_split is_line_end l.rest) ≡ last_part (slice_split is_line_end l.b);
}

abbrev pub decreases-loop-part : goal.decreases-loop-part
decreases-loop-part l = length l.rest
