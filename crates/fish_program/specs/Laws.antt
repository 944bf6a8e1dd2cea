-- What the ends of a run say together of a disk that is told in the end: laws.
use Rattle.std.specs.Prelude.{ℕ, ◌≡◌, ◌+◌, ◌≤◌, List, ◌++◌, Bool, true, Option, Some, None, IsSome}
use Rattle.fish_catalog.specs.declared.commit.Commit.{Commit}
use Rattle.fish_catalog.specs.declared.entry.Entry.{Entry}
use Rattle.fish_disk.specs.declared.disk.Disk.{Ghosts as Disks}
use Rattle.fish_outside.specs.Content.{Files}
use Rattle.fish_recover.specs.Stores.{IsImageAsked}
use Rattle.fish_recover.specs.declared.refusal.Asked.{Asked}
use Rattle.fish_report.specs.declared.item.Item.{Item}
use Rattle.fish_rule.specs.declared.close.Remains.{Remains}
use Rattle.fish_run.specs.Blocks.{Round, rounds_of}
use Rattle.fish_run.specs.Ran.{IsRunStopped, Keeps, opened_item}
use Rattle.fish_run.specs.Reports.{first_item}
use Rattle.fish_run.specs.declared.fault.RunFault.{RunFault}
use Rattle.fish_script.specs.declared.script.Block as script
use Rattle.fish_program.specs.Limits.{first_calls}
use Rattle.fish_program.specs.Runs.{IsStoppedRun, IsWholeRun}
use Rattle.fish_program.specs.declared.outcome.Outcome.{Outcome}

-- the disk was empty at the start, or stood for this log by this commit, which the report's first item tells; since its
-- first calls a crash left nothing but the log with what was committed after it; and so it is in the end
pub record KeepsHeld {D : Type 0} (disks : Disks D) (disk disk' : D) (asked : Asked) (first : Item) (ended : Bool)
    (rounds : List Round) (cut : Option Round) (remains : Remains) : Type 0 where
  pub image : List ℕ
  pub read : disks.content disk ≡ Some image
  pub made : Bool
  pub commit : Commit
  pub log : List Entry
  pub was : IsImageAsked asked made commit log image
  pub first_is : first ≡ first_item made commit.count
  pub from : ℕ
  pub early : from ≤ disks.moment disk + first_calls made
  pub keeps : Keeps (disks.images disk') (disks.since disk' from) commit log ended rounds cut remains

-- ---- of disks of which these are told

module _ {D : Type 0} (disks : Disks D) where
  -- a whole run keeps what the disk held, and all that it told
  abbrev pub WholeRunsKeep : Type 0
  WholeRunsKeep = (disk disk' : D) (asked : Asked) (told : Option Files) (text : List script.Block)
      (old new : Option (List ℕ)) (o : Outcome)
      (r : IsWholeRun disks disk disk' asked told text old new o)
      → IsSome (disks.content disk')
      → KeepsHeld disks disk disk' asked (opened_item r.opened) true (rounds_of r.whole.blocks) None
      r.log

  -- a run that stopped keeps what the disk held, and what was committed
  abbrev pub StoppedRunsKeep : Type 0
  StoppedRunsKeep = (disk disk' : D) (asked : Asked) (told : Option Files) (text : List script.Block)
      (old new : Option (List ℕ)) (why : RunFault) (o : Outcome)
      (r : IsStoppedRun disks disk disk' asked told text old new why o) (log : Remains)
      → o.remains ≡ Some log → IsSome (disks.content disk')
      → (s : IsRunStopped disks r.mid disk' r.opened told text log old new o.refused why)
      × KeepsHeld disks disk disk' asked (opened_item r.opened) s.ended
      (rounds_of s.blocks ++ s.part) s.cut log
