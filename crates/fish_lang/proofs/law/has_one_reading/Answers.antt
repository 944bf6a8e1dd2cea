-- Both are the outcome.
use Rattle.std.proofs.Common.{◌≡◌, sym, ◌∙◌}
use Rattle.std.specs.Prelude.{Ok}
use Rattle.fish_lang.proofs.Outcomes.{outcome-only}
use Rattle.fish_lang.proofs.law.has_one_reading.Goals as goal

pub returns : goal.returns
returns c = λ b d e x y.
    let same : Ok d ≡ Ok e = sym (outcome-only b (Ok d) x) ∙ outcome-only b (Ok e) y in
    cc
