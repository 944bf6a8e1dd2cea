-- What a refusal says of the disk's count of faults.
use Rattle.std.specs.Prelude.{◌≡◌, ℕ, ◌≤◌, Result, IsErrOf}
use Rattle.fish_outside.specs.Causes.{Rose}
use Rattle.fish_flush.specs.declared.refusal.FlushRefusal.{FlushRefusal}
use Rattle.fish_flush.specs.declared.refusal.FlushRefusal.TheVariants.{DiskFault, OutOfMemory}

-- the count didn't fall; a fault comes only where it rose, and out of memory it stays
pub record HasFlushCause {T : Type 0} (before now : ℕ) (result : Result T FlushRefusal) : Type 0 where
  pub later : before ≤ now
  pub failed : IsErrOf result DiskFault → Rose before now
  pub memory : IsErrOf result OutOfMemory → now ≡ before
