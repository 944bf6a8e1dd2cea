-- What a page that is held says, and what a call of the disk does.
use Rattle.std.specs.Prelude.{ℕ, ◌≡◌, ◌%◌, ◌+◌, ◌≤◌, List, Result, IsErrOf}
use Rattle.fish_catalog.specs.declared.page_start.PageStart.{PageStart}
use Rattle.fish_disk.specs.Content.{StillReads}
use Rattle.fish_disk.specs.Crash.{LeavesOnly}
use Rattle.fish_disk.specs.declared.disk.Disk.{Ghosts as Disks}
use Rattle.fish_outside.specs.Causes.{Rose}
use Rattle.fish_cold.specs.Pages.{page_words}
use Rattle.fish_cold.specs.Regions.{AreRegions}
use Rattle.fish_cold.specs.Starts.{IsStartIn}
use Rattle.fish_cold.specs.declared.page.Page.{Page}
use Rattle.fish_cold.specs.declared.refusal.ColdRefusal.{ColdRefusal}
use Rattle.fish_cold.specs.declared.refusal.ColdRefusal.TheVariants.{DiskFault}

-- the page has the words that a file has of it below a line, and the lines at which its regions begin
pub record IsPageIn (end : ℕ) (starts : List PageStart) (content : List ℕ) (number : ℕ) (page : Page) : Type 0 where
  pub words : page.words.items ≡ page_words end number content
  pub regions : (start : PageStart) → IsStartIn starts number start
      → AreRegions page.words.items (start.line % 32768) page.regions.items

-- the count of faults didn't fall, and where the disk failed, it rose
pub record HasDiskCause {T : Type 0} (before now : ℕ) (result : Result T ColdRefusal) : Type 0 where
  pub later : before ≤ now
  pub failed : IsErrOf result DiskFault → Rose before now

-- the disk was read once at most, and a crash leaves what it might have left before
pub record OnlyReads {D : Type 0} (disks : Disks D) (old new : D) : Type 0 where
  pub content_is : StillReads (disks.content old) (disks.content new)
  pub crash : LeavesOnly disks.images disks.since disks.moment old new (disks.images old)
  pub one : disks.moment new ≤ disks.moment old + 1
