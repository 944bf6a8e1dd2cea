-- The statements are done as far as there are items, whichever pass had begun them, with what was read of the file.
use Rattle.std.proofs.Common.{◌≡◌, ℕ, List, Option, false, length}
use Rattle.std.specs.Prelude.{IsSome}
use Rattle.fish_epoch.specs.Definitions.{IsDefsOf}
use Rattle.fish_lanes.specs.Spans.{IsAnswerItem}
use Rattle.fish_lanes.specs.within.Advancing.{IsWorkSoFar}
use Rattle.fish_lanes.specs.within.Full.{HasMetFull}
use Rattle.fish_lanes.specs.within.Parts.{OnlyReadsFile}
use Rattle.fish_lanes.specs.within.Pasts.{WasHere}
use Rattle.fish_lanes.specs.within.Running.{CanBegin}
use Rattle.fish_rule.specs.Passes.{view}
use Rattle.fish_rule.specs.Views.{AllOf}
use Rattle.fish_rule.specs.declared.view.View.{View}
use Rattle.fish_lanes.proofs.finishing.finish_works.Given as goal

abbrev pub invariant-loop-next : goal.invariant-loop-next
invariant-loop-next g l =
    let disk = g.D.Disk in
    record {
      can : CanBegin l.log l.pass;
      read : IsDefsOf (view l.pass) l.defs;
      reads : OnlyReadsFile disk l.log.key l.fn.disk l.fn.file l.disk l.file;
      position : length l.items ≡ l.next;
      far : (start : View) (later : Option (List ℕ)) → (IsSome later → IsSome (disk.content l.disk))
          → IsWorkSoFar (WasHere (disk.content l.fn.disk) l.log.key l.fn.file.cold later) start (view l.fn.pass) l.works l.fn.items
          → IsWorkSoFar (WasHere (disk.content l.fn.disk) l.log.key l.fn.file.cold later) start (view l.pass) l.works l.items;
      last : l.full ≡ false → HasMetFull (view l.fn.pass) l.fn.items → HasMetFull (view l.pass) l.items;
      answers : AllOf IsAnswerItem l.fn.items → AllOf IsAnswerItem l.items;
    }
