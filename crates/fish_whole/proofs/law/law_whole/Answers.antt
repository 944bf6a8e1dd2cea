-- Each law is a lemma.
use Rattle.fish_whole.proofs.Entries.{sure_entry, sure_settled}
use Rattle.fish_whole.proofs.Parts.{known_sure}
use Rattle.fish_whole.proofs.Tables.{ends_so, goes_rolled}
use Rattle.fish_whole.proofs.Wholes.{sure_rows}
use Rattle.fish_whole.proofs.law.law_whole.Goals as goal

pub returns-clause-entries : goal.returns-clause-entries
returns-clause-entries c = sure_entry

pub returns-clause-settled : goal.returns-clause-settled
returns-clause-settled c = sure_settled

pub returns-clause-definitions : goal.returns-clause-definitions
returns-clause-definitions c = sure_rows

pub returns-clause-parts : goal.returns-clause-parts
returns-clause-parts c = known_sure

pub returns-clause-ends : goal.returns-clause-ends
returns-clause-ends c = ends_so

pub returns-clause-goes_on : goal.returns-clause-goes_on
returns-clause-goes_on c = goes_rolled
