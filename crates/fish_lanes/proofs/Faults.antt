-- Why a statement has no item.
use Rattle.std.proofs.Common.{◌≡◌, ◌≤◌, ℕ, List, None, Option, Some, Result, Ok, Err, refl, subst}
use Rattle.std.proofs.lemmas.Option.{same_Some}
use Rattle.std.specs.Prelude.{IfErr, IfOk}
use Rattle.fish_lanes.proofs.Parts.{scan_gains}
use Rattle.fish_cold.specs.Carries.{CarriesTable}
use Rattle.fish_cold.specs.declared.cold.Cold.{Cold}
use Rattle.fish_lanes.specs.within.Causes.{fault_of, or_memory, or_stop}
use Rattle.fish_lanes.specs.within.Doing.{IsPart, IsStopped}
use Rattle.fish_lanes.specs.within.Parts.{StopsBy}
use Rattle.fish_lanes.specs.within.Pasts.{IsHere}
use Rattle.fish_lanes.specs.declared.statements.Stop.{Stop}
use Rattle.fish_lanes.specs.declared.statements.Stop.TheVariants as stop
use Rattle.fish_lanes.specs.declared.work.LaneFault.{LaneFault}
use Rattle.fish_lanes.specs.declared.work.LaneFault.TheVariants as fault
use Rattle.fish_lanes.specs.declared.work.Work.{Work}
use Rattle.fish_lanes.specs.declared.work.Work.TheVariants as work
use Rattle.fish_rule.specs.declared.view.Epoch.TheVariants.{Out}
use Rattle.fish_rule.specs.declared.view.Key.{Key}
use Rattle.fish_rule.specs.declared.view.View.{View}
use Rattle.fish_scan.specs.Across.{IsUndamagedScan}
use Rattle.fish_scan.specs.Colder.{IsScanFault}
use Rattle.fish_scan.specs.Scans.{OnlyScans}
use Rattle.fish_scan.specs.declared.ask.Answer.{Answer}
use Rattle.fish_scan.specs.declared.ask.Ask.{Ask}
use Rattle.fish_scan.specs.declared.refusal.ScanRefusal.{ScanRefusal}
use Rattle.fish_scan.specs.declared.refusal.ScanRefusal.TheVariants as refusal
use Rattle.fish_whole.specs.Whole.{Whole}

-- ---- without memory

-- what holds of an answer holds where the lane stops since memory ran out
pub memory_ok : {T E : Type 0} (r : Result T E) (P : T → Type 0) → IfOk r P → IfOk (or_memory r) P
memory_ok (Ok x) P h = h
memory_ok (Err e) P h = tt

pub stop_ok : {T E : Type 0} (r : Result T E) (P : T → Type 0) → IfOk r P → IfOk (or_stop r) P
stop_ok (Ok x) P h = h
stop_ok (Err e) P h = tt

-- and so does what is left where there is none
pub memory_part : {T E : Type 0} (r : Result T E) (P : Type 0) → IfErr r (λ _. P) → IfErr (or_memory r) (λ _. P)
memory_part (Ok x) P h = tt
memory_part (Err e) P h = h

pub stop_part : {T E : Type 0} (v u : View) (w : Work) (r : Result T E) → IfErr r (λ _. IsPart v u w)
    → IfErr (or_stop r) (IsStopped v u w)
stop_part v u w (Ok x) h = tt
stop_part v u w (Err e) h = h

-- ---- scans

-- a scan without an item found nothing
pub scan_stopped : {T : Type 0} (v u : View) (ask : Ask) (r : Result T Stop) → v.epoch ≡ Out → v.flight ≡ None → OnlyScans v u
    → IfErr r (IsStopped v u (work.Scan ask))
scan_stopped v u ask (Ok x) outside idle only = tt
scan_stopped v u ask (Err stop.Memory) outside idle only = (0, scan_gains v u 0 outside idle only)
scan_stopped v u ask (Err stop.Older) outside idle only = (ask, refl, only)

-- what is no scan never waits for the file
pub other_part : (v u : View) (w : Work) (why : Stop) → ((ask : Ask) → w ≡ work.Scan ask → ⊥) → IsStopped v u w why → IsPart v u w
other_part v u w stop.Memory no_scan h = h
other_part v u w stop.Older no_scan h = absurd (no_scan h.0 h.1)

-- ---- how a statement stops

-- without memory it stops for no cause of the disk
pub memory_stops : (Past : Whole → Type 0) (before now : ℕ) → before ≤ now → StopsBy Past before now fault.Memory
memory_stops Past before now later = ((λ bad. absurd cc), record { later = later; cause = tt; whole = λ past behind. tt })

pub or_memory_stops : (Past : Whole → Type 0) {T E : Type 0} (before now : ℕ) (r : Result T E) → before ≤ now
    → IfErr (or_memory r) (StopsBy Past before now)
or_memory_stops Past before now (Ok x) later = tt
or_memory_stops Past before now (Err e) later = memory_stops Past before now later

-- by a fault of the store's file
pub refusal_stops : (content : Option (List ℕ)) (k : Key) (cold : Cold) (before now : ℕ) (r : ScanRefusal) (why : LaneFault) → before ≤ now
    → IsScanFault {T = Answer} before now (Err r) → (CarriesTable content k cold → IsUndamagedScan r) → fault_of r ≡ Some why
    → StopsBy (IsHere content k cold) before now why
refusal_stops content k cold before now refusal.DiskFault why later rose whole is =
    subst (StopsBy (IsHere content k cold) before now) (same_Some fault.Disk why is)
    ((λ bad. absurd cc), record { later = later; cause = rose refl; whole = λ past here. tt })
refusal_stops content k cold before now (refusal.Damaged n) why later rose whole is =
    subst (StopsBy (IsHere content k cold) before now) (same_Some (fault.Damaged n) why is)
    ((λ bad. absurd cc), record { later = later; cause = tt; whole = λ past here. elim (whole here.table) [ ] })
refusal_stops content k cold before now (refusal.UnknownName version) why later rose whole is = absurd cc
refusal_stops content k cold before now (refusal.EmptyRange from to) why later rose whole is = absurd cc
refusal_stops content k cold before now (refusal.NotCovered from to) why later rose whole is = absurd cc
refusal_stops content k cold before now (refusal.ColdRange base) why later rose whole is = absurd cc
refusal_stops content k cold before now refusal.OutOfMemory why later rose whole is = absurd cc

-- and with the part of it that was done
pub stops_scan : (Past : Whole → Type 0) (P : Type 0) {T : Type 0} (before now : ℕ) (r : Result T LaneFault) → IfErr r (λ _. P)
    → IfErr r (StopsBy Past before now) → IfErr r (λ e. P × StopsBy Past before now e)
stops_scan Past P before now (Ok x) part stops = tt
stops_scan Past P before now (Err e) part stops = (part, stops)
