-- What opening a store finds, and why it is refused.
use Rattle.std.specs.Prelude.{ℕ, ◌≡◌, ◌≢◌, ◌+◌, ◌-◌, ◌*◌, ◌/◌, ◌≤◌, ◌⊎◌, ◌↔◌, List, Option, Some, None, IsTrue, length}
use Rattle.std.specs.Prelude.{⊤}
use Rattle.fish_catalog.specs.declared.commit.Checked.{Checked}
use Rattle.fish_catalog.specs.declared.commit.Commit.{Commit}
use Rattle.fish_image.specs.Checking.{HasChecked}
use Rattle.fish_image.specs.Log.{IsDamaged}
use Rattle.fish_image.specs.Reading.{IsBodyOf}
use Rattle.fish_image.specs.Stands.{words_in}
use Rattle.fish_slots.specs.Commits.{HasCommit}
use Rattle.fish_slots.specs.Slots.{IsOpen}
use Rattle.fish_recover.specs.Choosing.{IsSlotRead, IsSlotless}
use Rattle.fish_recover.specs.declared.finding.Found.{Found}
use Rattle.fish_recover.specs.declared.refusal.Asked.{Asked}
use Rattle.fish_recover.specs.declared.refusal.OpenRefusal.{OpenRefusal}
use Rattle.fish_recover.specs.declared.refusal.OpenRefusal.TheVariants.{Damaged, DiskFault, NotAStore, OutOfMemory}
use Rattle.fish_recover.specs.declared.refusal.OpenRefusal.TheVariants.{ShapeDiffers}

-- ---- lines

-- how many pages so many lines take
abbrev pub pages_of : ℕ → ℕ
pages_of lines = (lines + 32767) / 32768

-- and so what was found is that of some lines
pub record AreLinesRead (commit : Commit) (checked : Checked) : Type 0 where
  pub lines : List ℕ
  pub size : length lines ≤ 32 * commit.lines
  pub held : HasChecked commit (words_in lines) checked

-- ---- the shape

-- a number is asked for, and it is another than the one that is kept
abbrev pub Differs : Option ℕ → ℕ → Type 0
Differs None kept = ⊥
Differs (Some n) kept = n ≢ kept

-- another shape is asked for than the commit's
abbrev pub IsOtherShape : Asked → Commit → Type 0
IsOtherShape asked commit = Differs asked.pages commit.pages ⊎ Differs asked.bucket_bits commit.bucket_bits

-- ---- the whole

-- the slot counts in the image and its body tells the commit, of the shape that is asked for, and the lines that it
-- counts were held to it; and whether the other gate is open too
pub record IsImageFound (image : List ℕ) (asked : Asked) (found : Found) : Type 0 where
  pub body : List ℕ
  pub lines : List ℕ
  pub commit : HasCommit body lines image
  pub slot : commit.slot ≡ found.slot
  pub told : IsBodyOf found.commit body
  pub shape : IsOtherShape asked found.commit → ⊥
  pub checked : HasChecked found.commit (words_in lines) found.checked
  pub older : IsTrue found.both ↔ IsOpen (1 - found.slot) image

-- whatever the disk tells of its content: it is one of the two slots, some body tells the commit, and some lines were
-- held to it
pub record IsFoundRead (found : Found) : Type 0 where
  pub slot : IsSlotRead found.slot found.commit
  pub lines : AreLinesRead found.commit found.checked

-- the slot that counts tells a commit of another shape
pub record IsOther (image : List ℕ) (asked : Asked) (pages bits : ℕ) : Type 0 where
  pub body : List ℕ
  pub lines : List ℕ
  pub commit : Commit
  pub has : HasCommit body lines image
  pub told : IsBodyOf commit body
  pub shape : IsOtherShape asked commit
  pub pages_are : commit.pages ≡ pages
  pub bits_are : commit.bucket_bits ≡ bits

-- the slot that counts tells a commit of the shape that is asked for, and its lines stand for no log: exactly so many
-- leading entries agree
pub record IsBrokenImage (image : List ℕ) (asked : Asked) (number : ℕ) : Type 0 where
  pub body : List ℕ
  pub lines : List ℕ
  pub commit : Commit
  pub has : HasCommit body lines image
  pub told : IsBodyOf commit body
  pub shape : IsOtherShape asked commit → ⊥
  pub damaged : IsDamaged commit (words_in lines) number

-- the refusal speaks of the store
abbrev pub IsOfStore : OpenRefusal → Type 0
IsOfStore NotAStore = ⊤
IsOfStore (Damaged n) = ⊤
IsOfStore (ShapeDiffers kept asked) = ⊤
IsOfStore DiskFault = ⊥
IsOfStore OutOfMemory = ⊥

-- why a store isn't opened: no gate is open; no slot counts whose body tells a commit; the slot's shape is another one;
-- its lines stand for no log; or the disk failed, or memory ran out
abbrev pub IsOpenCause : List ℕ → Asked → OpenRefusal → Type 0
IsOpenCause image asked NotAStore = (IsOpen 0 image → ⊥) × (IsOpen 1 image → ⊥)
IsOpenCause image asked (Damaged n) = ((n ≡ 0) × IsSlotless image) ⊎ IsBrokenImage image asked n
IsOpenCause image asked (ShapeDiffers kept other) = IsOther image asked kept.pages kept.bucket_bits × (other ≡ asked)
IsOpenCause image asked DiskFault = ⊤
IsOpenCause image asked OutOfMemory = ⊤
