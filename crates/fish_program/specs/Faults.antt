-- Which fault each refusal of a step is, the line that tells of it, and where a step may end by it.
use Rattle.std.specs.Prelude.{ℕ, List, ◌++◌, codes, Option, Some, None}
use Rattle.fish_outside.specs.declared.fault.FeedRefusal.{FeedRefusal}
use Rattle.fish_outside.specs.declared.fault.FeedRefusal.TheVariants as feed
use Rattle.fish_recover.specs.RefusalText.{open_refusal_text}
use Rattle.fish_recover.specs.declared.refusal.OpenRefusal.{OpenRefusal}
use Rattle.fish_recover.specs.declared.refusal.OpenRefusal.TheVariants as opening
use Rattle.fish_run.specs.declared.fault.RunFault.{RunFault}
use Rattle.fish_run.specs.declared.fault.RunFault.TheVariants as ran
use Rattle.fish_script.specs.RefusalText.{script_refusal_text}
use Rattle.fish_script.specs.declared.refusal.ScriptRefusal.{ScriptRefusal}
use Rattle.fish_script.specs.declared.refusal.ScriptRefusal.TheVariants as script
use Rattle.fish_command.specs.RefusalText.{usage_text}
use Rattle.fish_command.specs.declared.refusal.CommandRefusal.{CommandRefusal}
use Rattle.fish_command.specs.declared.refusal.CommandRefusal.TheVariants as command
use Rattle.fish_program.specs.declared.fault.Fault.{Fault}
use Rattle.fish_program.specs.declared.fault.Fault.TheVariants as fault

-- ---- the line on standard error

-- the line on standard error that tells of a fault, where there is one
abbrev pub fault_line : Fault → List ℕ
fault_line fault.None = codes "fault none"
fault_line (fault.Usage cause) = codes "fault usage " ++ usage_text cause
fault_line (fault.Script refusal) = codes "fault script " ++ script_refusal_text refusal
fault_line (fault.Store refusal) = codes "fault store " ++ open_refusal_text refusal
fault_line fault.Disk = codes "fault disk"
fault_line fault.Input = codes "fault input"
fault_line fault.Output = codes "fault output"
fault_line fault.Memory = codes "fault memory"

-- the fault that standard error tells of: each, but for none
abbrev pub printed_fault : Fault → Option Fault
printed_fault fault.None = None
printed_fault (fault.Usage cause) = Some (fault.Usage cause)
printed_fault (fault.Script refusal) = Some (fault.Script refusal)
printed_fault (fault.Store refusal) = Some (fault.Store refusal)
printed_fault fault.Disk = Some fault.Disk
printed_fault fault.Input = Some fault.Input
printed_fault fault.Output = Some fault.Output
printed_fault fault.Memory = Some fault.Memory

-- ---- the faults of refusals

-- what a refusal of the words ends a run by
abbrev pub command_fault : CommandRefusal → Fault
command_fault (command.Usage cause) = fault.Usage cause
command_fault command.OutOfMemory = fault.Memory

-- what a refusal of the script's text ends a run by
abbrev pub script_fault : ScriptRefusal → Fault
script_fault (script.TooLong n) = fault.Script (script.TooLong n)
script_fault (script.NotText line) = fault.Script (script.NotText line)
script_fault (script.Unexpected line) = fault.Script (script.Unexpected line)
script_fault (script.Definition line refusal) = fault.Script (script.Definition line refusal)
script_fault (script.ControlInLane line) = fault.Script (script.ControlInLane line)
script_fault (script.TooManyLanes line) = fault.Script (script.TooManyLanes line)
script_fault (script.TooManyFeeds line) = fault.Script (script.TooManyFeeds line)
script_fault script.OutOfMemory = fault.Memory

-- what a refusal of the store ends a run by
abbrev pub open_fault : OpenRefusal → Fault
open_fault opening.NotAStore = fault.Store opening.NotAStore
open_fault (opening.Damaged n) = fault.Store (opening.Damaged n)
open_fault (opening.ShapeDiffers kept asked) = fault.Store (opening.ShapeDiffers kept asked)
open_fault opening.DiskFault = fault.Disk
open_fault opening.OutOfMemory = fault.Memory

-- what a refusal of a file ends a run by
abbrev pub fault_of_feed : FeedRefusal → Fault
fault_of_feed feed.Failed = fault.Input
fault_of_feed feed.OutOfMemory = fault.Memory

-- what a fault of a script's run ends the whole by
abbrev pub run_fault : RunFault → Fault
run_fault ran.Input = fault.Input
run_fault ran.Output = fault.Output
run_fault ran.Memory = fault.Memory
run_fault ran.Disk = fault.Disk
run_fault (ran.Damaged n) = fault.Store (opening.Damaged n)
