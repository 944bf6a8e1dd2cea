-- Regions that were found are those of one moment.
use Rattle.fish_rule.proofs.laws.Comparing.{one_line, one_number, regions_follow}
use Rattle.fish_rule.proofs.law.law_found_regions.Goals as goal

pub returns-clause-line : goal.returns-clause-line
returns-clause-line c = one_line

pub returns-clause-number : goal.returns-clause-number
returns-clause-number c = one_number

pub returns-clause-follow : goal.returns-clause-follow
returns-clause-follow c = regions_follow
