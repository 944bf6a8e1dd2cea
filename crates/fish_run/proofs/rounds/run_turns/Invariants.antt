-- The rounds so far ran, and the lanes go on from the last one.
use Rattle.std.proofs.Common.{◌≡◌, ◌≤◌, ℕ, List, length}
use Rattle.fish_lanes.specs.Blocks.{AreLanes}
use Rattle.fish_lanes.specs.declared.work.Work.{Work}
use Rattle.fish_run.specs.within.Going.{AreLanesReady}
use Rattle.fish_run.specs.within.Turning.{tables_left}
use Rattle.fish_run.specs.within.Runs.{CanGoOn}
use Rattle.fish_store.specs.declared.store.Store.{Store}
use Rattle.fish_run.proofs.rounds.run_turns.Given as goal

abbrev pub invariant-loop-turned : goal.invariant-loop-turned
invariant-loop-turned g l = record {
  go : CanGoOn g.D.Disk.images l.disk l.start.store l.start.from;
  lanes : AreLanes l.lanes;
  many : length l.lanes ≡ length l.said;
  same : length l.lanes ≡ length l.fn.lanes;
  goes : (d : g.row.D.Denot) (s : Store) (from : ℕ) (now given : List (List Work))
      → AreLanesReady g.D.Disk d s from l.fn.disk l.fn.start l.fn.lanes l.fn.said now given
      → (next : List (List Work)) × AreLanesReady g.D.Disk d s from l.disk l.start l.lanes
      l.said next given;
  disk : g.D.Disk.faults l.fn.disk ≤ g.D.Disk.faults l.disk;
}

abbrev pub decreases-loop-turned : goal.decreases-loop-turned
decreases-loop-turned g l = tables_left l.start.store
