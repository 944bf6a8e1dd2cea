-- Each kind of step by its class, and lists of steps by induction.
use Rattle.fish_rule.proofs.laws.Schedules.{event_lasts, every_schedule}
use Rattle.fish_rule.proofs.law.law_every_schedule.Goals as goal

pub returns-clause-rule : goal.returns-clause-rule
returns-clause-rule c = every_schedule

pub returns-clause-final_words : goal.returns-clause-final_words
returns-clause-final_words c = event_lasts
