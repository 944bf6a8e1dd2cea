-- Which fault stops a lane, of a scan that the store's file refused and where memory ran out.
use Rattle.std.specs.Prelude.{Option, Some, None, Result, Ok, Err}
use Rattle.fish_lanes.specs.declared.statements.Stop.{Stop}
use Rattle.fish_lanes.specs.declared.statements.Stop.TheVariants as stop
use Rattle.fish_lanes.specs.declared.work.LaneFault.{LaneFault}
use Rattle.fish_lanes.specs.declared.work.LaneFault.TheVariants as fault
use Rattle.fish_scan.specs.declared.refusal.ScanRefusal.{ScanRefusal}
use Rattle.fish_scan.specs.declared.refusal.ScanRefusal.TheVariants as refusal

-- the fault of a lane whose scan met one of the store's file
abbrev pub fault_of : ScanRefusal → Option LaneFault
fault_of refusal.DiskFault = Some fault.Disk
fault_of (refusal.Damaged number) = Some (fault.Damaged number)
fault_of (refusal.UnknownName version) = None
fault_of (refusal.EmptyRange from to) = None
fault_of (refusal.NotCovered from to) = None
fault_of (refusal.ColdRange base) = None
fault_of refusal.OutOfMemory = None

-- what a lane or a statement answers where memory ran out
abbrev pub or_memory : {T E : Type 0} → Result T E → Result T LaneFault
or_memory (Ok x) = Ok x
or_memory (Err e) = Err fault.Memory

abbrev pub or_stop : {T E : Type 0} → Result T E → Result T Stop
or_stop (Ok x) = Ok x
or_stop (Err e) = Err stop.Memory

-- the fault with which a lane stops at a statement without an item: none where it stays before it
abbrev pub fault_of_stop : Stop → LaneFault
fault_of_stop stop.Memory = fault.Memory
fault_of_stop stop.Older = fault.None
