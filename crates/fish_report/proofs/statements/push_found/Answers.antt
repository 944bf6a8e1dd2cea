-- One piece was put after the other, in the order of the text.
use Rattle.std.proofs.Common.{append_assoc, ◌∙◌}
use Rattle.fish_report.specs.StatementText.{found_text}
use Rattle.fish_report.proofs.statements.push_found.Goals as goal

pub returns : goal.returns
unfolding found_text
returns c =
    c.in_ok-push_str.ensures.bytes
    ∙ rw (c.in_ok-push_numbers.ensures, c.as_slice.ensures, c.in_ok-write.ensures.bytes) (simp append_assoc)
