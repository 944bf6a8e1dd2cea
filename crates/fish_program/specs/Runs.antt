-- What a run of a script tells of the file that the script stands in, of the disk, of the output and of the log.
use Rattle.std.specs.Prelude.{◌≡◌, ◌≢◌, ℕ, List, [], Bool, Option, Some, None, IfSome, IsSome, ⊤}
use Rattle.fish_disk.specs.declared.disk.Disk.{Ghosts as Disks}
use Rattle.fish_outside.specs.Content.{Files}
use Rattle.fish_recover.specs.declared.opened.Opened.{Opened}
use Rattle.fish_recover.specs.declared.refusal.Asked.{Asked}
use Rattle.fish_rule.specs.declared.close.Remains.{Remains}
use Rattle.fish_run.specs.Ran.{IsRunLost, IsRunStopped, IsRunWhole}
use Rattle.fish_outside.specs.Reading.{ReadsFile}
use Rattle.fish_run.specs.declared.fault.RunFault.{RunFault}
use Rattle.fish_run.specs.declared.fault.RunFault.TheVariants as ran
use Rattle.fish_script.specs.Refusals.{IsRefusal, IsScript}
use Rattle.fish_script.specs.declared.refusal.ScriptRefusal.{ScriptRefusal}
use Rattle.fish_script.specs.declared.refusal.ScriptRefusal.TheVariants.{OutOfMemory}
use Rattle.fish_script.specs.declared.script.Block.{Block}
use Rattle.fish_program.specs.Limits.{longest_read}
use Rattle.fish_program.specs.Stores.{Opens}
use Rattle.fish_program.specs.declared.fault.Fault.{Fault}
use Rattle.fish_program.specs.declared.fault.Fault.TheVariants as fault
use Rattle.fish_program.specs.declared.outcome.Outcome.{Outcome}

-- ---- the script

-- the text of the file with this name is this script, where the files are still told
pub record HasScript (file : List ℕ) (told : Option Files) (script : List Block) : Type 0 where
  pub text : List ℕ
  pub of_file : IfSome told (λ files. files file ≡ Some text)
  pub is : IsScript text script

-- its first bytes are refused as a script for this, and not since memory ran out
pub record RefusesScript (file : List ℕ) (told : Option Files) (refusal : ScriptRefusal) : Type 0 where
  pub text : List ℕ
  pub of_file : IfSome told (λ files. ReadsFile longest_read file files text)
  pub is : IsRefusal text refusal
  pub named : refusal ≢ OutOfMemory

-- so a run may end that read none
abbrev pub IsScriptUnread : List ℕ → Option Files → Fault → Type 0
IsScriptUnread file told (fault.Script refusal) = RefusesScript file told refusal
IsScriptUnread file told fault.Input = ⊤
IsScriptUnread file told fault.Memory = ⊤
IsScriptUnread file told fault.None = ⊥
IsScriptUnread file told fault.Output = ⊥
IsScriptUnread file told fault.Disk = ⊥
IsScriptUnread file told (fault.Store refusal) = ⊥
IsScriptUnread file told (fault.Usage cause) = ⊥

-- ---- its run

-- the store was opened, the whole script ran, and this log is left
pub record IsWholeRun {D : Type 0} (disks : Disks D) (disk disk' : D) (asked : Asked) (told : Option Files)
    (script : List Block) (old new : Option (List ℕ)) (o : Outcome) : Type 0 where
  pub opened : Opened
  pub mid : D
  pub opens : Opens disks disk mid disk' asked opened
  pub report : o.report.items ≡ []
  pub log : Remains
  pub remains : o.remains ≡ Some log
  pub whole : IsRunWhole disks mid disk' opened told script log old new o.refused

-- a log is left of a run that this fault stopped, or was lost since memory ran out
abbrev pub IsLeft : {D : Type 0} → Disks D → D → D → Opened → Option Files → List Block → Option (List ℕ)
    → Option (List ℕ) → Bool → RunFault → Option Remains → Type 0
IsLeft disks mid disk' o told script old new refused why (Some log) =
    IsRunStopped disks mid disk' o told script log old new refused why
IsLeft disks mid disk' o told script old new refused why None =
    (why ≡ ran.Memory) × IsRunLost disks mid disk' o told script old new refused

-- the store was opened, and this fault stopped the script's run
pub record IsStoppedRun {D : Type 0} (disks : Disks D) (disk disk' : D) (asked : Asked) (told : Option Files)
    (script : List Block) (old new : Option (List ℕ)) (why : RunFault) (o : Outcome) : Type 0 where
  pub opened : Opened
  pub mid : D
  pub opens : Opens disks disk mid disk' asked opened
  pub report : o.report.items ≡ []
  pub left : IsLeft disks mid disk' opened told script old new o.refused why o.remains

-- and it is a record below the table of which the disk has none: never one that is told in the end
pub record IsDamagedRun {D : Type 0} (disks : Disks D) (disk disk' : D) (asked : Asked) (told : Option Files)
    (script : List Block) (old new : Option (List ℕ)) (number : ℕ) (o : Outcome) : Type 0 where
  pub stopped : IsStoppedRun disks disk disk' asked told script old new (ran.Damaged number) o
  pub no_content : IsSome (disks.content disk') → ⊥
