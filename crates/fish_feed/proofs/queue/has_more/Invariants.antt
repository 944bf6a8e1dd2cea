-- Nothing is left of the queues so far.
use Rattle.std.proofs.Common.{◌≡◌, take}
use Rattle.fish_feed.specs.Queues.{left_of_all}
use Rattle.fish_feed.proofs.queue.has_more.Given as goal

abbrev pub invariant-loop-queue : goal.invariant-loop-queue
invariant-loop-queue g l = left_of_all (take l.queue-index l.queues) ≡ 0
