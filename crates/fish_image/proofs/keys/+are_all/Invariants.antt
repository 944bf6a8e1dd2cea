-- Each turn has an entry less.
use Rattle.std.proofs.Common.{length}
use Rattle.fish_image.proofs.keys.+are_all.Given as goal

abbrev pub decreases-are_all : goal.decreases-are_all
decreases-are_all l = length l.keys.now
