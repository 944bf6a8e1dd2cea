-- The statements so far are to be given, over files that are still told.
use Rattle.std.proofs.Common.{◌≡◌, ◌≤◌, Bool, false, take}
use Rattle.fish_feed.specs.Queues.{AreFitTodos, IsDue}
use Rattle.fish_script.specs.Laws.{Pairs}
use Rattle.fish_outside.specs.Content.{SameFiles}
use Rattle.fish_script.specs.Script.{AreFree}
use Rattle.fish_feed.proofs.building.open_lane.Given as goal

abbrev pub invariant-loop-statement : goal.invariant-loop-statement
invariant-loop-statement g l = record {
  todos : Pairs (IsDue (g.H.Host.files l.host) g.H.Feed.Source.left) (take l.statement-index l.statements) l.todos.items;
  fit : (first : Bool) → (first ≡ false → AreFree l.statements) → AreFitTodos g.H.Feed.Source.faults first l.todos.items;
  told : SameFiles (g.H.Host.files l.fn.host) (g.H.Host.files l.host);
  later : g.H.Host.faults l.fn.host ≤ g.H.Host.faults l.host;
}
