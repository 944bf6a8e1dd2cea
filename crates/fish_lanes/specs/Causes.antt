-- Why a lane stops.
use Rattle.std.specs.Prelude.{ℕ, ⊤}
use Rattle.fish_lanes.specs.declared.work.LaneFault.{LaneFault}
use Rattle.fish_lanes.specs.declared.work.LaneFault.TheVariants as fault
use Rattle.fish_outside.specs.Causes.{Rose}

-- a fault of the disk comes only where its count of faults rose
abbrev pub HasFaultCause : ℕ → ℕ → LaneFault → Type 0
HasFaultCause before now fault.Disk = Rose before now
HasFaultCause before now fault.None = ⊤
HasFaultCause before now fault.Memory = ⊤
HasFaultCause before now (fault.Damaged number) = ⊤

-- no record was damaged
abbrev pub IsUndamaged : LaneFault → Type 0
IsUndamaged (fault.Damaged number) = ⊥
IsUndamaged fault.None = ⊤
IsUndamaged fault.Memory = ⊤
IsUndamaged fault.Disk = ⊤
