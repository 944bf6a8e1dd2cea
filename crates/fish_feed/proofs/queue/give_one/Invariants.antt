-- The lane has what was given so far, and the queue the rest.
use Rattle.std.proofs.Common.{◌≡◌, ◌+◌, ◌<◌, ◌≤◌, ◌⊎◌, ◌++◌, [], List, Bool, None}
use Rattle.fish_feed.specs.Queues.{IsFitQueue, IsQueue, MayDoAll, left_of}
use Rattle.fish_feed.specs.Parts.{longest_given}
use Rattle.fish_feed.specs.Works.{AreAnewAfterFirst, bytes_in_works}
use Rattle.fish_lanes.specs.declared.work.Work.{Work}
use Rattle.fish_outside.specs.Content.{SameFiles}
use Rattle.fish_script.specs.declared.script.Statement.{Statement}
use Rattle.fish_feed.proofs.queue.give_one.Given as goal

abbrev pub invariant-loop-most : goal.invariant-loop-most
invariant-loop-most g l = record {
  given : (ss : List Statement) (given : List Work) → IsQueue (g.H.Host.files l.fn.host) g.H.Feed.Source.left ss given l.fn.queue
      → IsQueue (g.H.Host.files l.host) g.H.Feed.Source.left ss (given ++ l.lane.works) l.queue;
  most : l.most ≤ 1048576;
  lane : l.lane ≡ record l.fn.lane { works = l.lane.works };
  fit : (first : Bool) → IsFitQueue g.H.Feed.Source.faults first l.fn.queue
      → IsFitQueue g.H.Feed.Source.faults first l.queue × MayDoAll first l.lane.works;
  one : AreAnewAfterFirst l.lane.works;
  room : 0 < l.most → bytes_in_works l.lane.works + l.most ≤ 1048576;
  few : bytes_in_works l.lane.works ≤ longest_given;
  last : (l.lane.works ≡ []) ⊎ ((l.most ≡ 0) ⊎ (l.queue.current ≡ None));
  down : left_of l.queue ≤ left_of l.fn.queue;
  falls : (l.most ≡ 1048576) ⊎ (left_of l.queue < left_of l.fn.queue);
  told : SameFiles (g.H.Host.files l.fn.host) (g.H.Host.files l.host);
  later : g.H.Host.faults l.fn.host ≤ g.H.Host.faults l.host;
}

abbrev pub decreases-loop-most : goal.decreases-loop-most
decreases-loop-most g l = left_of l.queue
