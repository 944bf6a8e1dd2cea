-- Each call has a queue less.
use Rattle.std.proofs.Common.{length}
use Rattle.fish_feed.proofs.queue.+give_all.Given as goal

abbrev pub decreases-give_all : goal.decreases-give_all
decreases-give_all g l = length l.queues.now
