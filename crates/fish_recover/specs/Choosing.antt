-- Which slot of an image an opening takes, and why it takes none.
use Rattle.std.specs.Prelude.{ℕ, ◌≤◌, ◌⊎◌, List, Result, IsErrOf}
use Rattle.fish_catalog.specs.declared.commit.Commit.{Commit}
use Rattle.fish_image.specs.Reading.{IsBodyOf}
use Rattle.fish_outside.specs.Causes.{Rose}
use Rattle.fish_slots.specs.Commits.{HasCommit}
use Rattle.fish_slots.specs.Slots.{IsOpen}
use Rattle.fish_recover.specs.declared.refusal.OpenRefusal.{OpenRefusal}
use Rattle.fish_recover.specs.declared.refusal.OpenRefusal.TheVariants.{DiskFault}

-- the count of faults didn't fall, and where the disk failed, it rose
pub record HasOpenCause {T : Type 0} (before now : ℕ) (result : Result T OpenRefusal) : Type 0 where
  pub later : before ≤ now
  pub failed : IsErrOf result DiskFault → Rose before now

-- whatever the disk tells of its content: it is one of the two slots, and some body tells the commit
pub record IsSlotRead (slot : ℕ) (commit : Commit) : Type 0 where
  pub slot_is : slot ≤ 1
  pub body : List ℕ
  pub told : IsBodyOf commit body

-- a gate is open, and yet no slot counts whose body tells a commit
pub record IsSlotless (image : List ℕ) : Type 0 where
  pub some : IsOpen 0 image ⊎ IsOpen 1 image
  pub none : (body lines : List ℕ) (commit : Commit) → HasCommit body lines image → IsBodyOf commit body → ⊥
