-- One moment of an open store between two steps of its control pass: the disk, what is kept of it, and the log.
use Rattle.std.specs.Prelude.{ℕ, ◌≡◌, ◌≤◌, false, List, Option, IfSome, IsSome, length, take}
use Rattle.fish_catalog.specs.declared.commit.Commit.{Commit}
use Rattle.fish_catalog.specs.declared.entry.Entry.{Entry}
use Rattle.fish_catalog.specs.declared.row.CatRow.{CatRow}
use Rattle.fish_cold.specs.Carries.{CarriesTable}
use Rattle.fish_cold.specs.declared.cold.Cold.{Cold}
use Rattle.fish_disk.specs.Content.{StillReads}
use Rattle.fish_disk.specs.Crash.{LeavesOnly}
use Rattle.fish_disk.specs.declared.disk.Disk.{Ghosts as Disks}
use Rattle.fish_flush.specs.Carrying.{CarriesLog}
use Rattle.fish_flush.specs.Rows.{HaveGrown}
use Rattle.fish_flush.specs.declared.flusher.Flusher.{Flusher}
use Rattle.fish_image.specs.Stands.{Stands}
use Rattle.fish_rule.specs.Logs.{Learns}
use Rattle.fish_rule.specs.declared.table.Shape.{Shape}
use Rattle.fish_rule.specs.declared.view.Key.{Key}
use Rattle.fish_rule.specs.declared.view.View.{View}
use Rattle.fish_scan.specs.Colder.{StaysCold}
use Rattle.fish_whole.specs.Whole.{FitsPast, GoesOn, IsKnown, Whole, WillHold}

-- the disk; what is kept of the last commit, and of the pages below the table; the table's shape, the rows of the
-- catalogue, and what the control pass knows
pub record Point (D : Type 0) : Type 0 where
  pub disk : D
  pub flusher : Flusher
  pub cold : Cold
  pub shape : Shape
  pub rows : List CatRow
  pub view : View

-- ---- images

-- the image stands for a part of the log, from number 0 on and for good, of at least so many entries
pub record IsImageOf (past : Whole) (v : View) (least : ℕ) (image : List ℕ) : Type 0 where
  pub commit : Commit
  pub log : List Entry
  pub stands : Stands commit image log
  pub many : least ≤ length log
  pub known : IsKnown past v log

-- ---- one moment

-- a checkpoint may follow: the flusher carries a log
abbrev pub MayCommit : {D : Type 0} → (D → List ℕ → Type 0) → Point D → Type 0
MayCommit images p = (c : Commit) × (log : List Entry)
    × CarriesLog (images p.disk) p.flusher p.view p.shape p.rows c log

-- and a checkpoint that follows goes on from the last commit, whose entries the pass has counted
pub record MayGoOn {D : Type 0} (images : D → List ℕ → Type 0) (p : Point D) : Type 0 where
  pub live : p.flusher.shut ≡ false
  pub may : MayCommit images p
  pub counted : p.flusher.count ≤ p.view.learned.count

-- every image stands for the last commit's log, which begins with what was there before the table
pub record Rests {D : Type 0} (images : D → List ℕ → Type 0) (p : Point D) (past : Whole) : Type 0 where
  pub commit : Commit
  pub log : List Entry
  pub carries : CarriesLog (images p.disk) p.flusher p.view p.shape p.rows commit log
  pub begins : take (length past.log) log ≡ past.log
  pub counted : p.flusher.count ≤ p.view.learned.count

-- the disk has what was there before the table, as the pages that are kept say
pub record HasPast {D : Type 0} (content : D → Option (List ℕ)) (p : Point D) (past : Whole) : Type 0 where
  pub table : CarriesTable (content p.disk) p.view.about p.cold
  pub entries : table.end.entries ≡ past.log

-- the table comes after its past, which the disk has; every image stands for a part of the log that has the last
-- commit's entries, and where no call of the disk failed, for these alone
pub record Sound {D : Type 0} (disks : Disks D) (p : Point D) (past : Whole) : Type 0 where
  pub fits : FitsPast past p.view
  pub has : HasPast disks.content p past
  pub rests : p.flusher.shut ≡ false → Rests disks.images p past
  pub now : (c : List ℕ) → disks.images p.disk c → IsImageOf past p.view p.flusher.count c

-- the store was sound after this past, of a disk whose content is told later
pub record IsSoundBehind {D : Type 0} (disks : Disks D) (p : Point D) (later : Option (List ℕ)) (past : Whole)
    : Type 0 where
  pub sound : Sound disks p past
  pub told : IsSome later

-- ---- from one moment to a later one

-- to one of the same table, over statements, checkpoints and reads: what is sound stays so after the same past, as far
-- as the disk's content is told, and since the first moment a crash left parts of the log, none shorter than that
-- moment's commit
pub record GoesOnHere {D : Type 0} (disks : Disks D) (p q : Point D) : Type 0 where
  pub learns : Learns p.view q.view
  pub told_before : IsSome (disks.content q.disk) → IsSome (disks.content p.disk)
  pub rises : p.flusher.count ≤ q.flusher.count
  pub sound : (past : Whole) → Sound disks p past → IsSome (disks.content q.disk) → Sound disks q past
  pub crash : (past : Whole) → Sound disks p past → IsSome (disks.content q.disk)
      → LeavesOnly disks.images disks.since disks.moment p.disk q.disk (IsImageOf past q.view p.flusher.count)

-- what is so of a later moment, of the same table or of one that took its place: it has a past in which nothing more
-- may be in the end, each whole that may be in the end is as is told, it is sound, and a crash left what it leaves in
-- one table
pub record Reaches {D : Type 0} (disks : Disks D) (past : Whole) (p q : Point D) (tells : Whole → Type 0) : Type 0 where
  pub next : Whole
  pub goes : GoesOn past p.view next q.view
  pub told : WillHold next q.view tells
  pub sound : Sound disks q next
  pub crash : LeavesOnly disks.images disks.since disks.moment p.disk q.disk (IsImageOf next q.view p.flusher.count)

-- from one moment to a later one, as far as the disk's content is told
pub record StoreRuns {D : Type 0} (disks : Disks D) (p q : Point D) (tells : Whole → Type 0) : Type 0 where
  pub told_before : IsSome (disks.content q.disk) → IsSome (disks.content p.disk)
  pub rises : p.flusher.count ≤ q.flusher.count
  pub reaches : (past : Whole) → Sound disks p past → IsSome (disks.content q.disk)
      → Reaches disks past p q tells

-- ---- steps

-- the rows of the catalogue went on for each commit whose entries the pass had counted
abbrev pub RowsGoOn : View → List CatRow → List CatRow → Type 0
RowsGoOn v old new = (n : ℕ) (rows : List CatRow) → n ≤ v.learned.count → HaveGrown n rows old → HaveGrown n rows new

-- the control pass went on, and of the disk pages were read at most
pub record StoreStays {D : Type 0} (disks : Disks D) (p q : Point D) : Type 0 where
  pub learns : Learns p.view q.view
  pub rows_on : RowsGoOn p.view p.rows q.rows
  pub flusher : q.flusher ≡ p.flusher
  pub shape : q.shape ≡ p.shape
  pub content_is : StillReads (disks.content p.disk) (disks.content q.disk)
  pub crash : LeavesOnly disks.images disks.since disks.moment p.disk q.disk (disks.images p.disk)
  pub table : CarriesTable (disks.content p.disk) p.view.about p.cold
      → IfSome (disks.content q.disk) (λ c. CarriesTable (disks.content q.disk) p.view.about q.cold)

-- of the disk pages were read at most, and what was carried of a table still is
pub record ReadsPages {D : Type 0} (disks : Disks D) (k : Key) (old new : Cold) (disk next : D) : Type 0 where
  pub cold : StaysCold disks old new disk next
  pub kept : CarriesTable (disks.content disk) k old
      → IfSome (disks.content next) (λ c. CarriesTable (disks.content next) k new)
