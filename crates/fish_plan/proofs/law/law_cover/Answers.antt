-- Each law is a lemma.
use Rattle.fish_plan.proofs.Inside.{held_is_indexed, index_inside}
use Rattle.fish_plan.proofs.Unique.{each_in_one, one_plan}
use Rattle.fish_plan.proofs.law.law_cover.Goals as goal

pub returns-clause-one : goal.returns-clause-one
returns-clause-one c = one_plan

pub returns-clause-each : goal.returns-clause-each
returns-clause-each c = λ pieces from settled to xs h n least most. each_in_one pieces from to n h.fill least most

pub returns-clause-inside : goal.returns-clause-inside
returns-clause-inside c = index_inside

pub returns-clause-held : goal.returns-clause-held
returns-clause-held c = held_is_indexed
