-- What changes of a row lies at or past the number, or takes away from what it covers.
use Rattle.fish_flush.proofs.Lasting.{grown_begins, grown_clamps, grown_ends, grown_polls}
use Rattle.fish_flush.proofs.law.law_rows_grow.Goals as goal

pub returns-clause-begins : goal.returns-clause-begins
returns-clause-begins c = grown_begins

pub returns-clause-polls : goal.returns-clause-polls
returns-clause-polls c = grown_polls

pub returns-clause-ends : goal.returns-clause-ends
returns-clause-ends c = grown_ends

pub returns-clause-clamps : goal.returns-clause-clamps
returns-clause-clamps c = grown_clamps
