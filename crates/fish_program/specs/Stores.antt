-- The store of a run: of what log it was opened, or why it wasn't.
use Rattle.std.specs.Prelude.{ℕ, ◌≡◌, ◌+◌, ◌≤◌, ◌⊎◌, List, [], Option, Some, IfSome, IsSome}
use Rattle.fish_catalog.specs.declared.commit.Commit.{Commit}
use Rattle.fish_catalog.specs.declared.entry.Entry.{Entry}
use Rattle.fish_disk.specs.Content.{StillReads}
use Rattle.fish_disk.specs.Crash.{LeavesOnly}
use Rattle.fish_disk.specs.declared.disk.Disk.{Ghosts as Disks}
use Rattle.fish_image.specs.Stands.{Stands}
use Rattle.fish_recover.specs.Opening.{IsOfStore}
use Rattle.fish_recover.specs.Stores.{IsImageAsked, IsOpened, IsStoreCause}
use Rattle.fish_recover.specs.declared.opened.Opened.{Opened}
use Rattle.fish_recover.specs.declared.refusal.Asked.{Asked}
use Rattle.fish_recover.specs.declared.refusal.OpenRefusal.{OpenRefusal}
use Rattle.fish_run.specs.Ran.{StoodFor}
use Rattle.fish_program.specs.Limits.{first_calls}

-- the shape that words ask for, as far as they do
abbrev pub shape_asked : Option ℕ → Option ℕ → Asked
shape_asked pages bits = record { pages = pages; bucket_bits = bits }

-- the disk, as it was read at the start, was empty, and a store of the shape that is asked for was made; or it stood
-- for this log by this commit, which is of that shape. Since a moment after the first calls a crash left nothing
-- else, up to where the run began
pub record Held {D : Type 0} (disks : Disks D) (disk mid disk' : D) (asked : Asked) (o : Opened) (c : Commit)
    (log : List Entry) : Type 0 where
  pub image : List ℕ
  pub read : disks.content disk ≡ Some image
  pub was : IsImageAsked asked o.made c log image
  pub from : ℕ
  pub early : from ≤ disks.moment disk + first_calls o.made
  pub stood : StoodFor disks mid disk' o c log from

-- a store was opened: whatever the disk tells, it is one of a log by a commit; and where it is told in the end, of
-- that which it held. So what a run does to what `mid` stood for, it does to what the disk held at the start
pub record Opens {D : Type 0} (disks : Disks D) (disk mid disk' : D) (asked : Asked) (o : Opened) : Type 0 where
  pub commit : Commit
  pub log : List Entry
  pub is : IsOpened (disks.content mid) (disks.images mid) commit log o
  pub held : IsSome (disks.content disk') → Held disks disk mid disk' asked o commit log

-- no store was opened, for this: where the disk is told, it is the cause, and where it is one of the store, nothing
-- on the disk changed, nor could a crash change it. Of a disk that stood for a log a crash left what was there, or what
-- stands for that log; and where it was empty, few calls were made
pub record IsUnopened {D : Type 0} (disks : Disks D) (disk disk' : D) (asked : Asked) (refusal : OpenRefusal)
    : Type 0 where
  pub cause : IfSome (disks.content disk') (λ image. IsStoreCause image asked refusal)
  pub reads : IsOfStore refusal → StillReads (disks.content disk) (disks.content disk')
  pub leaves : IsOfStore refusal
      → LeavesOnly disks.images disks.since disks.moment disk disk' (disks.images disk)
  pub crash : (i : List ℕ) (c : Commit) (log : List Entry) → disks.content disk ≡ Some i → Stands c i log
      → LeavesOnly disks.images disks.since disks.moment disk disk' (λ e. disks.images disk e ⊎ Stands c e log)
  pub calls : IfSome (disks.content disk') (λ _. disks.content disk ≡ Some []
      → disks.moment disk' ≤ disks.moment disk + 8)
