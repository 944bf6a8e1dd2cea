-- Region by region, from the first.
use Rattle.fish_flush.proofs.PageStarts.{pages_follow_starts}
use Rattle.fish_flush.proofs.law.law_page_starts.Goals as goal

pub returns : goal.returns
returns c = pages_follow_starts
