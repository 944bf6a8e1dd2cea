-- What it leaves to give lanes their next statements. Feeds are of a type F; left says which bytes one still gives, and
-- faults how often it failed.
use Rattle.std.specs.Prelude.{ℕ, List, Option, Bool, OnErr, OnOk, Result}
use Rattle.fish_feed.specs.Queues.{AreFit, GoesDown, IsGiven, IsQueue, LanesMayDo, MayEndFeed, both, left_of_all}
use Rattle.fish_feed.specs.Queues.{works_of}
use Rattle.fish_feed.specs.Works.{Triples}
use Rattle.fish_script.specs.Laws.{Pairs}
use Rattle.fish_feed.specs.declared.queue.Queue.{Queue}
use Rattle.fish_lanes.specs.declared.lane.Lane.{Lane}
use Rattle.fish_lanes.specs.declared.work.Work.{Work}
use Rattle.fish_outside.specs.Content.{Files}
use Rattle.fish_outside.specs.declared.fault.FeedRefusal.{FeedRefusal}
use Rattle.fish_script.specs.declared.script.Statement.{Statement}

-- what each lane was given so far, with what it got, and its queue are again all of its statements, or after an error
-- may be, also with what it got in the call that failed; it got few bytes, and may do what it got; and what is to come
-- goes down
pub record GivesWorks {F : Type 0} (left : F → Option (List ℕ)) (faults : F → ℕ) (told new : Option Files)
    (old now : List (Queue F)) (before lanes : List Lane) (result : Result (Unit {0}) FeedRefusal) : Type 0 where
  pub given : OnOk result ((texts : List (List Statement)) (given : List (List Work))
      → Triples (IsQueue told left) texts given old
      → Triples (IsQueue new left) texts (both given (works_of lanes)) now)
  pub failed : OnErr result ((texts : List (List Statement)) (given : List (List Work))
      → Triples (IsQueue told left) texts given old
      → Triples (MayEndFeed new left) texts (both given (works_of lanes)) now)
  pub got : Pairs IsGiven before lanes
  pub fit : (first : Bool) → AreFit faults first old → AreFit faults first now × LanesMayDo first lanes
  pub less : OnOk result (GoesDown (left_of_all old) (left_of_all now))
