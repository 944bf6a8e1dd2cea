-- What the refusals of the file mean for a scan.
use Rattle.fish_cold.specs.declared.refusal.ColdRefusal.{ColdRefusal}
use Rattle.fish_cold.specs.declared.refusal.ColdRefusal.TheVariants as cold
use Rattle.fish_scan.specs.declared.refusal.ScanRefusal.{ScanRefusal}
use Rattle.fish_scan.specs.declared.refusal.ScanRefusal.TheVariants as refusal

-- the same refusal
abbrev pub scan_refusal_of : ColdRefusal → ScanRefusal
scan_refusal_of cold.DiskFault = refusal.DiskFault
scan_refusal_of (cold.Damaged number) = refusal.Damaged number
scan_refusal_of cold.OutOfMemory = refusal.OutOfMemory
