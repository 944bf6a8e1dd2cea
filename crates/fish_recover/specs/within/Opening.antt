-- What opening a store finds, and why it is refused. What private clauses need of it.
use Rattle.std.specs.Prelude.{ℕ, ◌≡◌, ◌*◌, ◌≤◌, List, length, ⊤}
use Rattle.fish_catalog.specs.declared.commit.Commit.{Commit}
use Rattle.fish_image.specs.Checking.{HasSeen}
use Rattle.fish_image.specs.Log.{IsDamaged}
use Rattle.fish_image.specs.Stands.{words_in}
use Rattle.fish_image.specs.Steps.{Breaks}
use Rattle.fish_image.specs.declared.checker.Checker.{Checker}
use Rattle.fish_image.specs.declared.refusal.ImageRefusal.TheVariants.{Damaged as Broken, OutOfMemory as NoMemory}
use Rattle.fish_image.specs.declared.refusal.ImageRefusal.{ImageRefusal}
use Rattle.fish_recover.specs.declared.refusal.OpenRefusal.TheVariants.{Damaged, DiskFault, NotAStore, OutOfMemory}
use Rattle.fish_recover.specs.declared.refusal.OpenRefusal.TheVariants.{ShapeDiffers}
use Rattle.fish_recover.specs.declared.refusal.OpenRefusal.{OpenRefusal}
use Rattle.fish_slots.specs.Slots.{lines_in_slot}

-- ---- lines

-- the words of the first lines of the log, as far as the image has them
abbrev pub first_words : ℕ → List ℕ → List ℕ
first_words lines image = words_in (lines_in_slot lines image)

-- whatever the disk tells of its content: the checker has seen the words of some bytes, which are no more than so many
-- lines have
pub record HasReadLines (commit : Commit) (checker : Checker) (line : ℕ) : Type 0 where
  pub bytes : List ℕ
  pub words : ℕ
  pub size : length bytes ≡ 8 * words
  pub within : length bytes ≤ 32 * line
  pub seen : HasSeen commit checker (words_in bytes)

-- no more words are taken: so many entries agree, and no other will, whatever comes after; or the disk failed, or
-- memory ran out
abbrev pub IsPieceCause : Commit → List ℕ → OpenRefusal → Type 0
IsPieceCause commit w NotAStore = ⊥
IsPieceCause commit w (Damaged n) = Breaks commit w n
IsPieceCause commit w (ShapeDiffers kept asked) = ⊥
IsPieceCause commit w DiskFault = ⊤
IsPieceCause commit w OutOfMemory = ⊤

-- the words stand for no log, and exactly so many leading entries agree; or the disk failed, or memory ran out
abbrev pub IsLinesCause : Commit → List ℕ → OpenRefusal → Type 0
IsLinesCause commit w NotAStore = ⊥
IsLinesCause commit w (Damaged n) = IsDamaged commit w n
IsLinesCause commit w (ShapeDiffers kept asked) = ⊥
IsLinesCause commit w DiskFault = ⊤
IsLinesCause commit w OutOfMemory = ⊤

-- the refusal says nothing of the image
abbrev pub IsOutside : OpenRefusal → Type 0
IsOutside NotAStore = ⊥
IsOutside (Damaged n) = ⊥
IsOutside (ShapeDiffers kept asked) = ⊥
IsOutside DiskFault = ⊤
IsOutside OutOfMemory = ⊤

-- the refusal of a store is that of its image
abbrev pub IsSameRefusal : ImageRefusal → OpenRefusal → Type 0
IsSameRefusal (Broken n) refusal = refusal ≡ Damaged n
IsSameRefusal NoMemory refusal = refusal ≡ OutOfMemory
