-- The regions of the prior part are led to from the page starts, and their words are those of the pages.
use Rattle.fish_cold.proofs.Carried.{answered_entry, carried}
use Rattle.fish_cold.proofs.law.entries_are_carried.Goals as goal

pub returns-clause-carried : goal.returns-clause-carried
returns-clause-carried c content k cold h n less = carried content k cold h n less

pub returns-clause-answered : goal.returns-clause-answered
returns-clause-answered c number rest entry result is answers = answered_entry number rest entry result is answers
