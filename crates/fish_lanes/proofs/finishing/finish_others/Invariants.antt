-- The lanes so far are finished, with what was read of the file.
use Rattle.std.proofs.Common.{◌≡◌, ℕ, ◌<◌, ◌≤◌, Some, slice_get}
use Rattle.fish_lanes.specs.within.Advancing.{HasFinished}
use Rattle.fish_lanes.specs.Outcome.{Stops}
use Rattle.fish_lanes.specs.within.Parts.{OnlyReadsFile}
use Rattle.fish_lanes.specs.within.Pasts.{WasHere}
use Rattle.fish_lanes.specs.declared.lane.Lane.{Lane}
use Rattle.fish_lanes.proofs.finishing.finish_others.Given as goal

abbrev pub invariant-loop-i : goal.invariant-loop-i
invariant-loop-i g l =
    let disk = g.D.Disk in
    record {
      reads : OnlyReadsFile disk l.log.key l.fn.disk l.fn.file l.disk l.file;
      each : (j : ℕ) (x y : Lane) → j < l.i → slice_get l.fn.lanes j ≡ Some x → slice_get l.lanes j ≡ Some y
          → HasFinished (WasHere (disk.content l.fn.disk) l.log.key l.fn.file.cold (disk.content l.disk)) l.full l.log x y
          × Stops (WasHere (disk.content l.fn.disk) l.log.key l.fn.file.cold (disk.content l.disk)) (disk.faults l.fn.disk)
          (disk.faults l.disk) y.fault;
      rest : (j : ℕ) → l.i ≤ j → slice_get l.fn.lanes j ≡ slice_get l.lanes j;
    }
