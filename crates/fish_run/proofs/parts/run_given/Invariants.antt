-- The rounds so far ran, over which lanes were given a first part of what they are to do, and the lanes are idle.
use Rattle.std.proofs.Common.{◌≡◌, ◌≤◌, List, length, true}
use Rattle.fish_feed.specs.Queues.{AreFit, AreIdle, IsQueue}
use Rattle.fish_feed.specs.Works.{Triples}
use Rattle.fish_lanes.specs.Blocks.{AreLanes}
use Rattle.fish_lanes.specs.declared.work.Work.{Work}
use Rattle.fish_outside.specs.Content.{SameFiles}
use Rattle.fish_run.specs.within.Going.{GoesIn}
use Rattle.fish_run.specs.within.Parts.{AreUngiven}
use Rattle.fish_run.specs.within.Runs.{CanGoOn}
use Rattle.fish_script.specs.declared.script.Statement.{Statement}
use Rattle.fish_feed.specs.Queues.{left_of_all}
use Rattle.fish_run.proofs.parts.run_given.Given as goal

abbrev pub invariant-loop-turned : goal.invariant-loop-turned
invariant-loop-turned g l = record {
  go : CanGoOn g.D.Disk.images l.disk l.start.store l.start.from;
  lanes : AreLanes l.lanes;
  idle : AreIdle l.lanes;
  many : length l.lanes ≡ length l.queues;
  said : length l.lanes ≡ length l.said;
  fit : AreFit g.H.Feed.Source.faults true l.queues;
  given : List (List Work);
  goes : GoesIn g.D.Disk l.fn.disk l.fn.store l.fn.from l.disk l.start l.lanes
      l.said given;
  queues : (texts : List (List Statement)) → AreUngiven (g.H.Host.files l.fn.host) g.H.Feed.Source.left texts l.fn.queues
      → Triples (IsQueue (g.H.Host.files l.host) g.H.Feed.Source.left) texts given l.queues;
  told : SameFiles (g.H.Host.files l.fn.host) (g.H.Host.files l.host);
  later : g.H.Host.faults l.fn.host ≤ g.H.Host.faults l.host;
  disk : g.D.Disk.faults l.fn.disk ≤ g.D.Disk.faults l.disk;
}

abbrev pub decreases-loop-turned : goal.decreases-loop-turned
decreases-loop-turned g l = left_of_all l.queues
