-- What was written is the line, with the name in it.
use Rattle.std.proofs.Common.{◌∙◌, refl}
use Rattle.std.proofs.lemmas.Result.{on_ok_weaker}
use Rattle.fish_report.specs.RefusalText.{refused_text}
use Rattle.fish_report.proofs.refusals.push_scan_refused.Goals as goal

pub returns-in-UnknownName : goal.returns-in-UnknownName
unfolding refused_text
returns-in-UnknownName c =
    on_ok_weaker c.write.result (λ e. e ∙ rw (c.in-UnknownName.is, c.as_str-name.ensures) refl) c.write.ensures.bytes
