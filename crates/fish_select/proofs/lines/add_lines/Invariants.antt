-- What was found so far, with what the lines that are left will give, is what all give; each line counts once, and takes at
-- least one byte.
use Rattle.std.proofs.Common.{◌≡◌, ◌+◌, ◌≤◌, length, map}
use Rattle.fish_json.specs.Lines.{payload_of_line}
use Rattle.fish_lang.specs.Definition.{definition_of}
use Rattle.fish_value.specs.Outcomes.{accepted}
use Rattle.fish_lines.specs.Left.{lines_left}
use Rattle.fish_value.specs.declared.field.Form.TheVariants.{Json}
use Rattle.fish_select.specs.within.Found.{with_outcomes}
use Rattle.fish_select.specs.within.Selection.{is_selected}
use Rattle.fish_select.proofs.lines.add_lines.Given as goal

abbrev pub invariant-loop-line : goal.invariant-loop-line
invariant-loop-line l = record {
  whole : with_outcomes (is_selected (definition_of l.def) l.value Json) l.found (map payload_of_line (lines_left l.lines))
      ≡ with_outcomes (is_selected (definition_of l.def) l.value Json) l.fn.found (map payload_of_line (lines_left l.fn.lines));
  many : l.found.count + length (accepted (map payload_of_line (lines_left l.lines)))
      ≡ l.fn.found.count + length (accepted (map payload_of_line (lines_left l.fn.lines)));
  counted : l.found.count + l.found.refused + length l.lines.rest.now
      ≤ l.fn.found.count + l.fn.found.refused + length l.fn.lines.rest.now;
}

abbrev pub decreases-loop-line : goal.decreases-loop-line
decreases-loop-line l = length l.lines.rest.now
