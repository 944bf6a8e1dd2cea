-- A scan leaves the last commit, and reads pages at most.
use Rattle.std.proofs.Common.{◌≡◌, ap, ◌∙◌}
use Rattle.fish_cold.specs.declared.cold.Cold.{Cold}
use Rattle.fish_disk.specs.declared.disk.Disk.{Ghosts as Disks}
use Rattle.fish_rule.specs.Logs.{Learns}
use Rattle.fish_rule.specs.declared.table.Base.{Base}
use Rattle.fish_rule.specs.declared.view.Key.{Key}
use Rattle.fish_scan.specs.Colder.{IsBelow}
use Rattle.fish_store.specs.Sound.{Point, ReadsPages, RowsGoOn, StoreStays}

-- the older records stay those below the table
pub below_stays : (k : Key) (old new : Cold) → new.base ≡ old.base → IsBelow k old → IsBelow k new
below_stays k old new same h = record {
  number = ap (λ (b : Base). b.number) same ∙ h.number;
  line = ap (λ (b : Base). b.line) same ∙ h.line;
}

-- whatever the control pass does, and whichever pass reads, the last commit stays where only pages are read
pub pages_stay : {D : Type 0} (disks : Disks D) (p q : Point D) → Learns p.view q.view → RowsGoOn p.view p.rows q.rows
    → q.flusher ≡ p.flusher
    → q.shape ≡ p.shape → ReadsPages disks p.view.about p.cold q.cold p.disk q.disk
    → StoreStays disks p q
pages_stay disks p q learns rows flusher shape reads = record {
  learns = learns;
  rows_on = rows;
  flusher = flusher;
  shape = shape;
  content_is = reads.cold.content_is;
  crash = reads.cold.crash;
  table = reads.kept;
}
