-- An image has one commit, and a body tells one.
use Rattle.fish_recover.proofs.Excluding.{found_cause, one_cause}
use Rattle.fish_recover.proofs.law.causes_exclude.Goals as goal

pub returns-clause-one : goal.returns-clause-one
returns-clause-one c = one_cause

pub returns-clause-found : goal.returns-clause-found
returns-clause-found c = found_cause
