-- The part that was cut off is one more line, unless it is blank.
use Rattle.std.proofs.Common.{◌∙◌, ap, ◌++◌}
use Rattle.std.specs.List.{slice_split}
use Rattle.fish_json.specs.Lines.{is_line_end}
use Rattle.fish_lines.specs.Lines.{ended_parts, given_of}
use Rattle.fish_lines.proofs.SplitLemmas.{given_push, last_push}
use Rattle.fish_lines.proofs.splitter.push_parts.Goals as goal

pub loop-part-preserved : goal.loop-part-preserved
loop-part-preserved c =
    let rest = c.loop-part.rest.now in
    let part = c.in-Some.part.now in
    let behind = c.in-Some.behind.now in
    let more = given_of (ended_parts (slice_split is_line_end behind)) in
    record {
      given = ap (λ l. l ++ more) c.in_ok-push_line.ensures
          ∙ given_push rest part behind c.in_ok-of_part.field-0 c.loop-part.lines.items
          c.in-Some.ensures.parts c.in_ok-of_part.ensures
          ∙ c.loop-part.invariant.given;
      last = last_push rest part behind c.in-Some.ensures.parts ∙ c.loop-part.invariant.last;
    }
