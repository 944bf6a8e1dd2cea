-- The objects in memory: calls that fail by a plan, and files by name.
use Rattle.std.specs.Prelude.{◌==◌, ℕ, List, [], Bool, Option, Some, unwrap_or, find, if◌then◌else◌}
use Rattle.std.specs.List.{list_any}
use Rattle.std.specs.Option.{option_map}
use Rattle.std.specs.Str.{bytes_eq}
use Rattle.fish_outside.specs.Causes.{counted_on}
use Rattle.fish_outside.specs.Content.{Files}
use Rattle.fish_outside.specs.declared.plan.FaultPlan.{FaultPlan}
use Rattle.fish_outside.specs.declared.memory.HostFile.{HostFile}

-- the plan of an object that has had no call: the numbers of the calls that are to fail
abbrev pub new_plan : List ℕ → FaultPlan
new_plan fails = record { fails = fails; calls = 0; faults = 0 }

-- the next call is one of those that are to fail
abbrev pub is_planned : FaultPlan → Bool
is_planned plan = list_any (λ call. call == plan.calls) plan.fails

-- the plan with one more call counted, and one more fault if it failed
abbrev pub plan_after_call : FaultPlan → Bool → FaultPlan
plan_after_call plan failed = record plan {
  calls = counted_on plan.calls 1;
  faults = if failed then counted_on plan.faults 1 else plan.faults;
}

-- the first file of a name
abbrev pub file_of : List HostFile → List ℕ → Option HostFile
file_of files name = find (λ file. bytes_eq file.name name) files

-- files by name, from a list of them
abbrev pub files_of : List HostFile → Files
files_of files name = option_map (λ file. file.bytes) (file_of files name)

-- the same, where every other name is that of an empty file
abbrev pub sure_files_of : List HostFile → Files
sure_files_of files name = Some (unwrap_or (files_of files name) [])
