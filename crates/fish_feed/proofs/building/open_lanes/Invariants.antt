-- The queues so far are those of the block's lanes, over files that are still told.
use Rattle.std.proofs.Common.{◌≤◌, take, true}
use Rattle.fish_feed.specs.Queues.{AreFit}
use Rattle.fish_feed.proofs.Opening.{AreOpened}
use Rattle.fish_outside.specs.Content.{SameFiles}
use Rattle.fish_feed.proofs.building.open_lanes.Given as goal

abbrev pub invariant-loop-text : goal.invariant-loop-text
invariant-loop-text g l = record {
  queues : AreOpened (g.H.Host.files l.host) g.H.Feed.Source.left (take l.text-index l.texts) l.queues.items;
  fit : AreFit g.H.Feed.Source.faults true l.queues.items;
  told : SameFiles (g.H.Host.files l.fn.host) (g.H.Host.files l.host);
  later : g.H.Host.faults l.fn.host ≤ g.H.Host.faults l.host;
}
