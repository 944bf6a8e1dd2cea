-- The blocks so far ran and were written, the control pass may run the next one, and the counts of faults didn't fall.
use Rattle.std.proofs.Common.{take}
use Rattle.fish_lanes.specs.Registering.{registry_of}
use Rattle.fish_outside.specs.Content.{SameFiles}
use Rattle.fish_rule.specs.Passes.{view}
use Rattle.fish_run.specs.Blocks.{first_registry}
use Rattle.fish_run.specs.Reports.{first_item}
use Rattle.fish_run.specs.Faults.{counts_of}
use Rattle.fish_run.specs.within.Runs.{CanGoOn}
use Rattle.fish_run.specs.within.Steps.{WritesBlocks}
use Rattle.fish_run.specs.within.Faults.{AreLater}
use Rattle.fish_store.specs.Points.{point_at}
use Rattle.fish_run.proofs.running.run_blocks.Given as goal

abbrev pub invariant-loop-block : goal.invariant-loop-block
invariant-loop-block g l = record {
  go : CanGoOn g.D.Disk.images l.disk l.lasts.store l.lasts.count;
  writes : WritesBlocks g.D.Disk (point_at l.fn.disk l.fn.store)
      (point_at l.disk l.lasts.store) l.fn.count (first_registry l.fn.store.registrar.catalog) (first_item l.fn.made l.fn.count)
      (g.H.Host.files l.host) (take l.block-index l.fn.script) l.lasts.count (registry_of (view l.lasts.store.pass) l.lasts.store.registrar)
      (g.W.Sink.written l.fn.out) (g.W.Sink.written l.out) l.refused;
  told : SameFiles (g.H.Host.files l.fn.host) (g.H.Host.files l.host);
  later : AreLater (counts_of g.H.Host.faults g.W.Sink.faults g.D.Disk.faults l.fn.host l.fn.out l.fn.disk)
      (counts_of g.H.Host.faults g.W.Sink.faults g.D.Disk.faults l.host l.out l.disk);
}
