-- Which rows of the catalogue the commits have that a crash leaves.
use Rattle.std.specs.Prelude.{ℕ, ◌++◌, List, [], ◌∷◌, Result, Ok, Err, IsSome}
use Rattle.fish_catalog.specs.declared.commit.Commit.{Commit}
use Rattle.fish_catalog.specs.declared.entry.Entry.{Entry}
use Rattle.fish_catalog.specs.declared.row.CatRow.{CatRow}
use Rattle.fish_disk.specs.Crash.{LeavesOnly}
use Rattle.fish_disk.specs.declared.disk.Disk.{Ghosts as Disks}
use Rattle.fish_image.specs.Stands.{Stands}
use Rattle.fish_rule.specs.Views.{Among}

-- the image stands for a log by a commit whose rows are among these
pub record HasRowsOf (lists : List (List CatRow)) (image : List ℕ) : Type 0 where
  pub commit : Commit
  pub log : List Entry
  pub stands : Stands commit image log
  pub among : Among commit.rows lists

-- so does every one of the images
abbrev pub HaveRowsOf : (List ℕ → Type 0) → List (List CatRow) → Type 0
HaveRowsOf images lists = (image : List ℕ) → images image → HasRowsOf lists image

-- from one moment of a disk to a later one, as far as its content is told: where the rows that a crash left were among
-- some, those that it leaves now are among what `left` makes of them, and those that it left since are among them or
-- these
pub record LeavesRows {D : Type 0} (disks : Disks D) (disk disk' : D)
    (left : List (List CatRow) → List (List CatRow)) (more : List (List CatRow)) : Type 0 where
  pub told_before : IsSome (disks.content disk') → IsSome (disks.content disk)
  pub now : IsSome (disks.content disk') → (was : List (List CatRow)) → HaveRowsOf (disks.images disk) was
      → HaveRowsOf (disks.images disk') (left was)
  pub since : IsSome (disks.content disk') → (was : List (List CatRow)) → HaveRowsOf (disks.images disk) was
      → LeavesOnly disks.images disks.since disks.moment disk disk' (HasRowsOf (was ++ more))

-- what a checkpoint of these rows makes of others: these alone, where it is done
abbrev pub by_checkpoint : {T E : Type 0} → Result T E → List CatRow → List (List CatRow) → List (List CatRow)
by_checkpoint (Ok count) rows was = rows ∷ []
by_checkpoint (Err why) rows was = was ++ rows ∷ []
