-- The statements so far are done.
use Rattle.std.proofs.Common.{take}
use Rattle.fish_epoch.specs.Definitions.{IsDefsOf}
use Rattle.fish_lanes.proofs.Turn.{Going}
use Rattle.fish_lanes.specs.within.Parts.{store_of}
use Rattle.fish_rule.specs.Passes.{view}
use Rattle.fish_lanes.proofs.control.run_control.Given as goal

abbrev pub invariant-loop-work : goal.invariant-loop-work
invariant-loop-work g l =
    record {
      going : Going g.D.Disk l.fn.disk (store_of l.fn.file l.log l.fn.pass l.fn.registrar) l.disk
          (store_of l.file l.log l.pass l.registrar) (take l.work-index l.works) l.items;
      read : IsDefsOf (view l.pass) l.defs;
    }
