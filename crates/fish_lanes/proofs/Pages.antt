-- Reading pages of a file, and what it had before the table.
use Rattle.std.proofs.Common.{◌≡◌, ℕ, List, Option, Some, None, refl, sym, ap, ◌∙◌, subst}
use Rattle.std.specs.Prelude.{IsSome}
use Rattle.fish_cold.specs.declared.cold.Cold.{Cold}
use Rattle.fish_disk.specs.Content.{StillReads}
use Rattle.fish_disk.specs.declared.disk.Disk.{Ghosts as Disks}
use Rattle.fish_image.specs.Reached.{Reached}
use Rattle.fish_lanes.specs.within.Parts.{OnlyReadsFile}
use Rattle.fish_lanes.specs.within.Pasts.{IsHere, WasHere}
use Rattle.fish_rule.specs.declared.view.Key.{Key}
use Rattle.fish_scan.proofs.Carrying.{carried_last, stays_both, stays_none}
use Rattle.fish_scan.specs.Colder.{IsBelow}
use Rattle.fish_store.proofs.Running.{on_table, told_still}
use Rattle.fish_store.specs.Sound.{ReadsPages}
use Rattle.fish_store.specs.declared.file.StoreFile.{StoreFile}
use Rattle.fish_whole.specs.Whole.{Whole}

-- what is still read is the same
same_told : (old new : Option (List ℕ)) → StillReads old new → IsSome new → new ≡ old
same_told old None still some = absurd cc
same_told old (Some c) still some = sym still

-- so it has the same before the table
pub here_same : (old new : Option (List ℕ)) (k : Key) (cold : Cold) (past : Whole) → StillReads old new → IsSome new
    → IsHere old k cold past → IsHere new k cold past
here_same old new k cold past still some h = subst (λ (o : Option (List ℕ)). IsHere o k cold past) (sym (same_told old new still some)) h

module _ {D : Type 0} (disks : Disks D) (k : Key) where
  abbrev pub Reads : Cold → Cold → D → D → Type 0
  Reads old new disk next = ReadsPages disks k old new disk next

  -- no page
  pub pages_none : (cold : Cold) (disk : D) → Reads cold cold disk disk
  pages_none cold disk =
      let stays = stays_none disks cold disk in
      record { cold = stays; kept = carried_last disks cold cold disk disk stays }

  -- some, and then others
  pub pages_both : (a b c : Cold) (d e f : D) → Reads a b d e → Reads b c e f → Reads a c d f
  pages_both a b c d e f h g =
      let stays = stays_both disks a b c d e f h.cold g.cold in
      record { cold = stays; kept = carried_last disks a c d f stays }

  -- where the content is told, it was
  pub pages_told : (a b : Cold) (d e : D) → Reads a b d e → IsSome (disks.content e) → IsSome (disks.content d)
  pages_told a b d e h = told_still (disks.content d) (disks.content e) h.cold.content_is

  -- and the disk has before the table what it had
  pub here_on : (a b : Cold) (d e : D) (past : Whole) → Reads a b d e → IsSome (disks.content e) → IsHere (disks.content d) k a past
      → IsHere (disks.content e) k b past
  here_on a b d e past h some was =
      let t = on_table (disks.content d) (disks.content e) k a b was.table h.cold.content_is some (h.kept was.table) in
      record { table = t.0; entries = ap (λ (z : Reached). z.entries) t.1 ∙ was.entries }

  -- ---- with what is kept of the last commit

  -- nothing was read
  pub reads_none : (disk : D) (file : StoreFile) → IsBelow k file.cold → OnlyReadsFile disks k disk file disk file
  reads_none disk file below = record { below = below; flusher = refl; pages = pages_none file.cold disk }

  -- something was, and then something else
  module _ {first mid now : D} {file read after : StoreFile} (a : OnlyReadsFile disks k first file mid read)
      (b : OnlyReadsFile disks k mid read now after) where
    pub reads_both : OnlyReadsFile disks k first file now after
    reads_both = record {
      below = b.below;
      flusher = b.flusher ∙ a.flusher;
      pages = pages_both file.cold read.cold after.cold first mid now a.pages b.pages;
    }

    -- what is told at the end was told in between
    pub reads_told : IsSome (disks.content now) → IsSome (disks.content mid)
    reads_told = pages_told read.cold after.cold mid now b.pages

    -- what the disk had before the table at the start, it has there at the end, as far as it is told then
    pub reads_here : (later : Option (List ℕ)) → (IsSome later → IsSome (disks.content now)) → (past : Whole)
        → WasHere (disks.content first) k file.cold later past → IsHere (disks.content now) k read.cold past
    reads_here later still past was =
        here_same (disks.content mid) (disks.content now) k read.cold past b.pages.cold.content_is (still was.told)
        (here_on file.cold read.cold first mid past a.pages (reads_told (still was.told)) was.here)
