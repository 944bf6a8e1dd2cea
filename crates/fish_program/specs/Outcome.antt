-- How a run ends, and what each end tells of the words, the files, the disk, the output and the log.
use Rattle.std.specs.Prelude.{◌≡◌, ◌⊎◌, ℕ, List, [], Bool, Option, None, Ok, Err, IfSome, ⊤, if◌then◌else◌}
use Rattle.std.specs.List.{list_any}
use Rattle.fish_disk.specs.declared.disk.Disk.{Ghosts as Disks}
use Rattle.fish_outside.specs.Content.{Files, Gained, GainedPart}
use Rattle.fish_report.specs.ReportText.{is_refusal, report_text}
use Rattle.fish_report.specs.declared.item.Item.{Item}
use Rattle.fish_recover.specs.Opening.{IsOfStore}
use Rattle.fish_recover.specs.declared.refusal.Asked.{Asked}
use Rattle.fish_recover.specs.declared.refusal.OpenRefusal.TheVariants as opening
use Rattle.fish_run.specs.declared.fault.RunFault.TheVariants as ran
use Rattle.fish_script.specs.declared.script.Block.{Block}
use Rattle.fish_command.specs.Command as command
use Rattle.fish_program.specs.Answer.{Answers, IsFileAnswer}
use Rattle.fish_program.specs.Runs.{HasScript, IsDamagedRun, IsStoppedRun, IsScriptUnread, IsWholeRun}
use Rattle.fish_program.specs.Sample.{EndsSample}
use Rattle.fish_program.specs.Stores.{IsUnopened, shape_asked}
use Rattle.fish_program.specs.declared.fault.Fault.{Fault}
use Rattle.fish_program.specs.declared.fault.Fault.TheVariants as fault
use Rattle.fish_program.specs.declared.outcome.Outcome.{Outcome}

-- the exit status: 0 where the work was done and nothing was refused, 3 where something was, and else that of the fault
abbrev pub status_of : Fault → Bool → ℕ
status_of fault.None refused = if refused then 3 else 0
status_of (fault.Usage cause) refused = 1
status_of (fault.Script refusal) refused = 2
status_of (fault.Store refusal) refused = 4
status_of fault.Disk refused = 5
status_of fault.Input refused = 6
status_of fault.Output refused = 7
status_of fault.Memory refused = 8

-- a run ends by usage exactly where the words are no command, and with that cause; only out of memory may come before
abbrev pub IsUsage : List (List ℕ) → Fault → Type 0
IsUsage line (fault.Usage cause) = command.IsCommand line (Err cause)
IsUsage line (fault.Script refusal) = command.IsSomeCommand line
IsUsage line (fault.Store refusal) = command.IsSomeCommand line
IsUsage line fault.Disk = command.IsSomeCommand line
IsUsage line fault.None = command.IsSomeCommand line
IsUsage line fault.Input = command.IsSomeCommand line
IsUsage line fault.Output = command.IsSomeCommand line
IsUsage line fault.Memory = ⊤

-- nothing was done: neither is a byte written, nor is there a report or a log
pub record DidNothing (old new : Option (List ℕ)) (o : Outcome) : Type 0 where
  pub written : Gained old new []
  pub report : o.report.items ≡ []
  pub remains : o.remains ≡ None

-- ---- `select`

-- the report was made: where the files are still told it answers, and it has a refusal where its item is one
pub record HasAnswer (answers : List ℕ → Item → Type 0) (file : List ℕ) (told : Option Files) (o : Outcome)
    : Type 0 where
  pub is : IfSome told (λ files. IsFileAnswer answers file files o.report.items)
  pub refused : o.refused ≡ list_any is_refusal o.report.items
  pub remains : o.remains ≡ None

-- how a selection from a file ends by each fault: the whole text of the report was written, or a first part of it where
-- the output failed, and else nothing
abbrev pub EndsSelect : (List ℕ → Item → Type 0) → List ℕ → Option Files → Option (List ℕ) → Option (List ℕ) → Outcome
    → Fault → Type 0
EndsSelect answers file told old new o fault.None =
    HasAnswer answers file told o × Gained old new (report_text o.report.items)
EndsSelect answers file told old new o fault.Output =
    HasAnswer answers file told o × GainedPart old new (report_text o.report.items)
EndsSelect answers file told old new o fault.Input = DidNothing old new o
EndsSelect answers file told old new o fault.Memory = DidNothing old new o
EndsSelect answers file told old new o (fault.Usage cause) = ⊥
EndsSelect answers file told old new o (fault.Script refusal) = ⊥
EndsSelect answers file told old new o (fault.Store refusal) = ⊥
EndsSelect answers file told old new o fault.Disk = ⊥

-- ---- `run`

-- how a run ends whose script was read, by each fault, on a store of the shape that is asked for: the whole script
-- ran; or no store was opened, and nothing was done; or a fault stopped the script's run
abbrev pub EndsScript : {D : Type 0} → Disks D → D → D → Asked → Option Files → List Block → Option (List ℕ)
    → Option (List ℕ) → Outcome → Fault → Type 0
EndsScript disks disk disk' asked told script old new o fault.None =
    IsWholeRun disks disk disk' asked told script old new o
EndsScript disks disk disk' asked told script old new o (fault.Store refusal) =
    (IsOfStore refusal × IsUnopened disks disk disk' asked refusal × DidNothing old new o)
    ⊎ ((n : ℕ) × (refusal ≡ opening.Damaged n)
    × IsDamagedRun disks disk disk' asked told script old new n o)
EndsScript disks disk disk' asked told script old new o fault.Disk =
    (IsUnopened disks disk disk' asked opening.DiskFault × DidNothing old new o)
    ⊎ IsStoppedRun disks disk disk' asked told script old new ran.Disk o
EndsScript disks disk disk' asked told script old new o fault.Input =
    IsStoppedRun disks disk disk' asked told script old new ran.Input o
EndsScript disks disk disk' asked told script old new o fault.Output =
    IsStoppedRun disks disk disk' asked told script old new ran.Output o
EndsScript disks disk disk' asked told script old new o fault.Memory =
    (IsUnopened disks disk disk' asked opening.OutOfMemory × DidNothing old new o)
    ⊎ IsStoppedRun disks disk disk' asked told script old new ran.Memory o
EndsScript disks disk disk' asked told script old new o (fault.Script refusal) = ⊥
EndsScript disks disk disk' asked told script old new o (fault.Usage cause) = ⊥

-- how a run of the script in a file ends: the script wasn't read, and nothing was done, the disk not touched; or it was
abbrev pub EndsRun : {D : Type 0} → Disks D → D → D → Asked → List ℕ → Option Files → Option (List ℕ) → Option (List ℕ)
    → Outcome → Type 0
EndsRun disks disk disk' asked file told old new o =
    (IsScriptUnread file told o.fault × (disk' ≡ disk) × DidNothing old new o)
    ⊎ ((script : List Block) × HasScript file told script
    × EndsScript disks disk disk' asked told script old new o o.fault)

-- ---- all commands

-- how a command ends: a `select` and a `sample` don't touch the disk
abbrev pub Ends : {D : Type 0} → Disks D → D → D → command.Asked → Option Files → Option (List ℕ) → Option (List ℕ)
    → Outcome → Type 0
Ends disks disk disk' (command.select def value form header file) told old new o =
    (disk' ≡ disk) × EndsSelect (Answers def value form header file) file told old new o o.fault
Ends disks disk disk' (command.run store script pages bits) told old new o =
    EndsRun disks disk disk' (shape_asked pages bits) script told old new o
Ends disks disk disk' (command.sample number) told old new o = (disk' ≡ disk) × EndsSample number old new o o.fault

-- the words are none, and this names why; or memory ran out before they were read
abbrev pub IsNoCommand : List (List ℕ) → Fault → Type 0
IsNoCommand line (fault.Usage cause) = command.IsCommand line (Err cause)
IsNoCommand line fault.Memory = ⊤
IsNoCommand line (fault.Script refusal) = ⊥
IsNoCommand line (fault.Store refusal) = ⊥
IsNoCommand line fault.Disk = ⊥
IsNoCommand line fault.None = ⊥
IsNoCommand line fault.Input = ⊥
IsNoCommand line fault.Output = ⊥

-- a run ends as the command does that the words are, or nothing was done, and the disk wasn't touched
abbrev pub IsProgramEnd : {D : Type 0} → Disks D → D → D → List (List ℕ) → Option Files → Option (List ℕ)
    → Option (List ℕ) → Outcome → Type 0
IsProgramEnd disks disk disk' line told old new o =
    ((asked : command.Asked) × command.IsCommand line (Ok asked)
    × Ends disks disk disk' asked told old new o)
    ⊎ (IsNoCommand line o.fault × (disk' ≡ disk) × DidNothing old new o)
