-- What was told stands at the moment of the close, and own numbers are exact there.
use Rattle.fish_rule.proofs.laws.ClosedLogs.{definitions_closed, own_closed, known_closed}
use Rattle.fish_rule.proofs.laws.NextLog.{may_follow}
use Rattle.fish_rule.proofs.law.law_closed_log.Goals as goal

pub returns-clause-known : goal.returns-clause-known
returns-clause-known c = known_closed

pub returns-clause-own : goal.returns-clause-own
returns-clause-own c = own_closed

pub returns-clause-definitions : goal.returns-clause-definitions
returns-clause-definitions c = definitions_closed

pub returns-clause-next : goal.returns-clause-next
returns-clause-next c = may_follow
