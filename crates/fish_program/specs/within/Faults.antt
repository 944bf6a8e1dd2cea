-- Which fault each refusal of a step is, the line that tells of it, and where a step may end by it. What private
-- clauses need of it.
use Rattle.std.specs.Prelude.{ℕ, Option, Some, None, ⊤}
use Rattle.fish_outside.specs.Causes.{Rose}
use Rattle.fish_program.specs.Faults.{run_fault}
use Rattle.fish_program.specs.declared.fault.Fault.TheVariants as fault
use Rattle.fish_program.specs.declared.fault.Fault.{Fault}
use Rattle.fish_run.specs.declared.fault.RunFault.{RunFault}

-- ---- the faults of refusals

-- how the program tells of the fault of a run, if one came
abbrev pub ran_fault : Option RunFault → Fault
ran_fault None = fault.None
ran_fault (Some why) = run_fault why

-- ---- where a step may end so

-- a step over the input may end by the input only where its faults rose, or since memory ran out
abbrev pub IsStepFault : ℕ → ℕ → Fault → Type 0
IsStepFault before now fault.Input = Rose before now
IsStepFault before now fault.Memory = ⊤
IsStepFault before now fault.None = ⊥
IsStepFault before now fault.Output = ⊥
IsStepFault before now (fault.Usage cause) = ⊥
IsStepFault before now (fault.Script refusal) = ⊥
IsStepFault before now (fault.Store refusal) = ⊥
IsStepFault before now fault.Disk = ⊥
