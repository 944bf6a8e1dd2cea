-- While a pass looked, each lane had one record in flight at most.
use Rattle.fish_rule.proofs.laws.OpenNumbers.{opens_last}
use Rattle.fish_rule.proofs.law.law_opens.Goals as goal

pub returns : goal.returns
returns c = opens_last
