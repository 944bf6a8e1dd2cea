-- Each turn has an entry or a value less.
use Rattle.std.proofs.Common.{◌+◌, length}
use Rattle.fish_image.proofs.keys.+are_some.Given as goal

abbrev pub decreases-are_some : goal.decreases-are_some
decreases-are_some l = length l.keys.now + length l.given.now
