-- Each call has a queue less.
use Rattle.std.proofs.Common.{length}
use Rattle.fish_feed.proofs.queue.+close.Given as goal

abbrev pub decreases-close : goal.decreases-close
decreases-close g l = length l.queues.now
