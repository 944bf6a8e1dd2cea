-- What a run of a script tells of the file that the script stands in, of the disk, of the output and of the log. What
-- private clauses need of it.
use Rattle.std.specs.Prelude.{ℕ, List, Option, None, ⊤}
use Rattle.fish_outside.specs.Causes.{Rose}
use Rattle.fish_outside.specs.Content.{Files}
use Rattle.fish_program.specs.Runs.{RefusesScript}
use Rattle.fish_program.specs.declared.fault.Fault.TheVariants as fault
use Rattle.fish_program.specs.declared.fault.Fault.{Fault}

-- ---- the script

-- reading a script may fail so: it is none, the input failed and its faults rose, or memory ran out
abbrev pub IsScriptFault : List ℕ → Option Files → ℕ → ℕ → Fault → Type 0
IsScriptFault file told before now (fault.Script refusal) = RefusesScript file told refusal
IsScriptFault file told before now fault.Input = Rose before now
IsScriptFault file told before now fault.Memory = ⊤
IsScriptFault file told before now fault.None = ⊥
IsScriptFault file told before now fault.Output = ⊥
IsScriptFault file told before now fault.Disk = ⊥
IsScriptFault file told before now (fault.Store refusal) = ⊥
IsScriptFault file told before now (fault.Usage cause) = ⊥
