-- A body tells one commit, and words are read in one way.
use Rattle.fish_recover.proofs.Excluding.{none_cause, one_stands, stands_cause}
use Rattle.fish_recover.proofs.law.stores_open.Goals as goal

pub returns-clause-one : goal.returns-clause-one
returns-clause-one c = one_stands

pub returns-clause-opens : goal.returns-clause-opens
returns-clause-opens c image asked d log e s h shape cause = stands_cause image asked d log e s h shape cause

pub returns-clause-makes : goal.returns-clause-makes
returns-clause-makes c = none_cause
