-- It is what the tokens lead to.
use Rattle.std.proofs.Common.{sym, ◌∙◌}
use Rattle.fish_lang.specs.within.Outcome.{outcome}
use Rattle.fish_lang.proofs.Outcomes.{outcome-is, outcome-only}
use Rattle.fish_lang.proofs.law.has_one_outcome.Goals as goal

pub returns-clause-some : goal.returns-clause-some
returns-clause-some c = λ b. (outcome b, outcome-is b)

pub returns-clause-one : goal.returns-clause-one
returns-clause-one c = λ b r s x y. sym (outcome-only b r x) ∙ outcome-only b s y
