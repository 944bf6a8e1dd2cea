-- One piece was put after the other, in the order of the text.
use Rattle.std.proofs.Common.{append_assoc, ◌∙◌}
use Rattle.fish_report.specs.StatementText.{plan_text}
use Rattle.fish_report.proofs.statements.push_plan.Goals as goal

pub returns : goal.returns
unfolding plan_text
returns c =
    c.in_ok-push_str-2.ensures.bytes
    ∙ rw (c.in_ok-push_pieces.ensures, c.pieces.ensures, c.in_ok-push_str.ensures.bytes) (simp append_assoc)
