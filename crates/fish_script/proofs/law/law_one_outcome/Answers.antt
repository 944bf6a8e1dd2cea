-- Each law is a lemma.
use Rattle.fish_script.proofs.Apart.{no_script_is_refused}
use Rattle.fish_script.proofs.Once.{one_refusal}
use Rattle.fish_script.proofs.OneScript.{one_script}
use Rattle.fish_script.proofs.law.law_one_outcome.Goals as goal

pub returns-clause-apart : goal.returns-clause-apart
returns-clause-apart c = no_script_is_refused

pub returns-clause-once : goal.returns-clause-once
returns-clause-once c = one_refusal

pub returns-clause-one : goal.returns-clause-one
returns-clause-one c = one_script
