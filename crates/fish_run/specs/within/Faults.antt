-- Why a run stops. What private clauses need of it.
use Rattle.std.specs.Prelude.{ℕ, ◌≡◌, ◌≢◌, ◌≤◌, IfErr, Result, ⊤}
use Rattle.fish_flush.specs.declared.refusal.FlushRefusal.{FlushRefusal}
use Rattle.fish_outside.specs.Causes.{Rose}
use Rattle.fish_report.specs.declared.writing.WriteRefusal.{WriteRefusal}
use Rattle.fish_run.specs.Faults.{FaultCounts, flush_fault, write_fault}
use Rattle.fish_run.specs.declared.fault.RunFault.{RunFault}
use Rattle.fish_run.specs.declared.fault.RunFault.TheVariants as fault
use Rattle.fish_run.specs.declared.lasting.Stopped.{Stopped}

-- the fault is one of a checkpoint
abbrev pub IsCommitFault : RunFault → Type 0
IsCommitFault why = (r : FlushRefusal) × (why ≡ flush_fault r)

-- the fault is one of items that couldn't be written
abbrev pub IsWriteFault : RunFault → Type 0
IsWriteFault why = (r : WriteRefusal) × (why ≡ write_fault r)

-- the fault is one of what runs before the last item is written, and not only of the output or of memory
abbrev pub IsInnerFault : RunFault → Type 0
IsInnerFault fault.Input = ⊤
IsInnerFault fault.Disk = ⊤
IsInnerFault (fault.Damaged number) = ⊤
IsInnerFault fault.Output = ⊥
IsInnerFault fault.Memory = ⊥

-- no count fell
abbrev pub AreLater : FaultCounts → FaultCounts → Type 0
AreLater a b = (a.host ≤ b.host) × ((a.out ≤ b.out) × (a.disk ≤ b.disk))

-- over a part of a run that writes nothing no count of faults fell; it stops at a fault of the input, or of the disk,
-- only where that count rose, and at none of the output
pub record CausesStop {T : Type 0} (host host' disk disk' : ℕ) (result : Result T Stopped) : Type 0 where
  pub later : host ≤ host'
  pub rises : disk ≤ disk'
  pub inner : IfErr result (λ s. s.why ≢ fault.Output)
  pub input : IfErr result (λ s. s.why ≡ fault.Input → Rose host host')
  pub of_disk : IfErr result (λ s. s.why ≡ fault.Disk → Rose disk disk')
