-- Each line takes at least one byte.
use Rattle.std.proofs.Common.{length}
use Rattle.bench.proofs.events.texts_of.Given as goal

abbrev pub decreases-loop-line : goal.decreases-loop-line
decreases-loop-line l = length l.lines.rest.now
