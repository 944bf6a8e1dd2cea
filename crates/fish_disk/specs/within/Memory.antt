-- A disk in memory, by its record of calls. What private clauses need of it.
use Rattle.std.specs.Prelude.{◌≡◌, ◌⊎◌, [], Bool, Result, IsErr, IsTrue, if◌then◌else◌, ◌∷◌, ◌++◌, true}
use Rattle.fish_disk.specs.declared.call.Call.{Call}
use Rattle.fish_disk.specs.declared.memory.MemoryDisk.{MemoryDisk}
use Rattle.fish_outside.specs.Causes.{counted_on}
use Rattle.fish_outside.specs.Memory.{is_planned}
use Rattle.fish_outside.specs.declared.fault.Failed.{Failed}
use Rattle.fish_outside.specs.declared.plan.FaultPlan.{FaultPlan}

-- the plan, with one more fault if a step failed
abbrev pub after_step : FaultPlan → Bool → FaultPlan
after_step plan failed = record plan {
  faults = if failed then counted_on plan.faults 1 else plan.faults;
}

-- one more call is counted, which fails where that is planned
pub record Planned {T : Type 0} (old new : FaultPlan) (result : Result T Failed) : Type 0 where
  pub fails : new.fails ≡ old.fails
  pub calls : new.calls ≡ counted_on old.calls 1
  pub failed : IsTrue (is_planned old) → IsErr result

-- the plan after a call that memory refused to keep in the record: a fault beside a planned one
abbrev pub refused_call : FaultPlan → FaultPlan
refused_call plan = after_step
    (record (after_step plan (is_planned plan)) { calls = counted_on plan.calls 1 })
    true

-- the call is in the record, whatever it answered, or memory refused that
abbrev pub Records : MemoryDisk → MemoryDisk → Call → Type 0
Records old new call =
    (new.calls ≡ old.calls ++ call ∷ [])
    ⊎ ((new.calls ≡ old.calls) × (new.plan ≡ refused_call old.plan))
