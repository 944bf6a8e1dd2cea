-- What the opening and the run of a script say of the disk, put together.
use Rattle.std.proofs.Common.{◌≡◌, ℕ, List, ◌++◌, ap, subst}
use Rattle.std.specs.Prelude.{Bool, true, Option, Some, None, IsSome}
use Rattle.fish_disk.specs.declared.disk.Disk.{Ghosts as Disks}
use Rattle.fish_outside.specs.Content.{Files}
use Rattle.fish_recover.specs.declared.opened.Opened.{Opened}
use Rattle.fish_recover.specs.declared.refusal.Asked.{Asked}
use Rattle.fish_rule.specs.declared.close.Remains.{Remains}
use Rattle.fish_run.specs.Blocks.{Round, rounds_of}
use Rattle.fish_run.specs.Ran.{IsRunStopped, Keeps, StoodFor, opened_item}
use Rattle.fish_run.specs.Reports.{first_item}
use Rattle.fish_run.specs.declared.fault.RunFault.{RunFault}
use Rattle.fish_catalog.specs.declared.commit.Commit.{Commit}
use Rattle.fish_catalog.specs.declared.entry.Entry.{Entry}
use Rattle.fish_script.specs.declared.script.Block as script
use Rattle.fish_program.specs.Laws.{KeepsHeld, StoppedRunsKeep, WholeRunsKeep}
use Rattle.fish_program.specs.Runs.{IsLeft}
use Rattle.fish_program.specs.Stores.{Opens}

module _ {D : Type 0} (disks : Disks D) where
  -- what is kept of all that the store stood for is kept of what the disk held
  keeps_held : (disk mid disk' : D) (asked : Asked) (o : Opened) (ended : Bool) (rounds : List Round) (cut : Option Round)
      (remains : Remains) → Opens disks disk mid disk' asked o → IsSome (disks.content disk')
      → ((c : Commit) (log : List Entry) (t : ℕ) → StoodFor disks mid disk' o c log t
      → Keeps (disks.images disk') (disks.since disk' t) c log ended rounds cut remains)
      → KeepsHeld disks disk disk' asked (opened_item o) ended rounds cut remains
  keeps_held disk mid disk' asked o ended rounds cut remains opens some keeps =
      let held = opens.held some in record {
        image = held.image;
        read = held.read;
        made = o.made;
        commit = opens.commit;
        log = opens.log;
        was = held.was;
        first_is = ap (first_item o.made) opens.is.count;
        from = held.from;
        early = held.early;
        keeps = keeps opens.commit opens.log held.from held.stood;
      }

  pub whole_keeps : WholeRunsKeep disks
  whole_keeps disk disk' asked told text old new o r some =
      keeps_held disk r.mid disk' asked r.opened true (rounds_of r.whole.blocks) None r.log r.opens some r.whole.keeps

  -- a log is left of a stopped run that has one
  left_some : (mid disk' : D) (o : Opened) (told : Option Files) (text : List script.Block) (old new : Option (List ℕ)) (refused : Bool)
      (why : RunFault) (remains : Option Remains) (log : Remains) → remains ≡ Some log
      → IsLeft disks mid disk' o told text old new refused why remains
      → IsRunStopped disks mid disk' o told text log old new refused why
  left_some mid disk' o told text old new refused why remains log is left =
      subst (IsLeft disks mid disk' o told text old new refused why) is left

  pub stopped_keeps : StoppedRunsKeep disks
  stopped_keeps disk disk' asked told text old new why o r log is some =
      let s = left_some r.mid disk' r.opened told text old new o.refused why o.remains log is r.left in
      (s, keeps_held disk r.mid disk' asked r.opened s.ended (rounds_of s.blocks ++ s.part) s.cut log r.opens some s.keeps)
