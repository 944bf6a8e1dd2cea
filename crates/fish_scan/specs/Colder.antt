-- What reading below the base leaves of the pages that are held, and of the disk.
use Rattle.std.specs.Prelude.{ℕ, ◌≡◌, ◌≤◌, Result, IsErrOf, IfSome}
use Rattle.fish_cold.specs.Cached.{IsReadFrom}
use Rattle.fish_cold.specs.declared.cold.Cold.{Cold}
use Rattle.fish_cold.specs.declared.refusal.ColdRefusal.TheVariants.{DiskFault}
use Rattle.fish_disk.specs.Content.{StillReads}
use Rattle.fish_disk.specs.Crash.{LeavesOnly}
use Rattle.fish_disk.specs.declared.disk.Disk.{Ghosts as Disks}
use Rattle.fish_outside.specs.Causes.{Rose}
use Rattle.fish_rule.specs.declared.view.Key.{Key}
use Rattle.fish_scan.specs.declared.refusal.ScanRefusal.{ScanRefusal}
use Rattle.fish_scan.specs.declared.refusal.ScanRefusal.TheVariants as refusal

-- the older records are those below the table's base
pub record IsBelow (k : Key) (cold : Cold) : Type 0 where
  pub number : cold.base.number ≡ k.number
  pub line : cold.base.line ≡ k.line

-- only pages were read: the base and the page starts are the same, each page that is held is what the disk reads, which
-- reads what it did, and a crash leaves what it might have left before
pub record StaysCold {D : Type 0} (disks : Disks D) (old new : Cold) (disk next : D) : Type 0 where
  pub base : new.base ≡ old.base
  pub starts : new.starts ≡ old.starts
  pub kept : IfSome (disks.content next) (λ c. IsReadFrom c old → IsReadFrom c new)
  pub content_is : StillReads (disks.content disk) (disks.content next)
  pub crash : LeavesOnly disks.images disks.since disks.moment disk next (disks.images disk)
  pub later : disks.faults disk ≤ disks.faults next

-- the same of a scan
abbrev pub IsScanFault : {T : Type 0} → ℕ → ℕ → Result T ScanRefusal → Type 0
IsScanFault before now result = IsErrOf result refusal.DiskFault → Rose before now
