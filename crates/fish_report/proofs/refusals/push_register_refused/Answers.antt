-- What was written is the line, with the name in it.
use Rattle.std.proofs.Common.{◌∙◌, refl}
use Rattle.std.proofs.lemmas.Result.{on_ok_weaker}
use Rattle.fish_report.specs.RefusalText.{refused_text}
use Rattle.fish_report.proofs.refusals.push_register_refused.Goals as goal

pub returns : goal.returns
unfolding refused_text
returns c = on_ok_weaker c.write.result (λ e. e ∙ rw c.as_str.ensures refl) c.write.ensures.bytes
