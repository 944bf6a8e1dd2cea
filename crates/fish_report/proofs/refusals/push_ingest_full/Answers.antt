-- What was written is the line, with the name as it stands in one.
use Rattle.std.proofs.Common.{◌∙◌, refl}
use Rattle.std.proofs.lemmas.Result.{on_ok_weaker}
use Rattle.fish_report.specs.RefusalText.{ingest_full_text}
use Rattle.fish_report.proofs.refusals.push_ingest_full.Goals as goal

pub returns : goal.returns
unfolding ingest_full_text
returns c =
    on_ok_weaker c.write.result (λ e. e ∙ rw (c.as_str.ensures, c.in_ok-file.ensures) refl) c.write.ensures.bytes
