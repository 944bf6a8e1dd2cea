-- What a pass knows of an interval says that its records are indexed.
use Rattle.fish_rule.proofs.laws.Intervals.{intervals_indexed, intervals_stay}
use Rattle.fish_rule.proofs.laws.Opened.{covered_between, opened_interval}
use Rattle.fish_rule.proofs.law.law_intervals.Goals as goal

pub returns-clause-indexed : goal.returns-clause-indexed
returns-clause-indexed c = intervals_indexed

pub returns-clause-stay : goal.returns-clause-stay
returns-clause-stay c = intervals_stay

pub returns-clause-covered : goal.returns-clause-covered
returns-clause-covered c = opened_interval

pub returns-clause-between : goal.returns-clause-between
returns-clause-between c = covered_between
