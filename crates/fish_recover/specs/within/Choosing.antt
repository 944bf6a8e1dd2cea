-- Which slot of an image an opening takes, and why it takes none. What private clauses need of it.
use Rattle.std.specs.Prelude.{ℕ, ◌≡◌, ◌-◌, ◌≤◌, ◌↔◌, List, Bool, IsTrue, ⊤}
use Rattle.fish_catalog.specs.declared.commit.Commit.{Commit}
use Rattle.fish_image.specs.Reading.{IsBodyOf}
use Rattle.fish_recover.specs.Choosing.{IsSlotless}
use Rattle.fish_recover.specs.declared.refusal.OpenRefusal.TheVariants.{Damaged, DiskFault, NotAStore, OutOfMemory}
use Rattle.fish_recover.specs.declared.refusal.OpenRefusal.TheVariants.{ShapeDiffers}
use Rattle.fish_recover.specs.declared.refusal.OpenRefusal.{OpenRefusal}
use Rattle.fish_slots.specs.Commits.{next_turn, turn_of}
use Rattle.fish_slots.specs.Slots.{IsOpen, body_in_slot}

-- the slot counts: its gate is open, and where the other is open too, its turn is the one after the other's
pub record IsNewer (slot : ℕ) (image : List ℕ) : Type 0 where
  pub gate : IsOpen slot image
  pub turn : IsOpen (1 - slot) image → turn_of (body_in_slot slot image)
      ≡ next_turn (turn_of (body_in_slot (1 - slot) image))

-- the slot counts and its body tells the commit, and whether the other gate is open too
pub record IsChosen (image : List ℕ) (slot : ℕ) (both : Bool) (commit : Commit) : Type 0 where
  pub slot_is : slot ≤ 1
  pub newer : IsNewer slot image
  pub told : IsBodyOf commit (body_in_slot slot image)
  pub older : IsTrue both ↔ IsOpen (1 - slot) image

-- why no slot is taken: no gate is open; or one is, and yet no slot counts whose body tells a commit; or the disk
-- failed, or memory ran out
abbrev pub IsSlotCause : List ℕ → OpenRefusal → Type 0
IsSlotCause image NotAStore = (IsOpen 0 image → ⊥) × (IsOpen 1 image → ⊥)
IsSlotCause image (Damaged n) = (n ≡ 0) × IsSlotless image
IsSlotCause image (ShapeDiffers kept asked) = ⊥
IsSlotCause image DiskFault = ⊤
IsSlotCause image OutOfMemory = ⊤

-- why no commit is read from a body: it tells none; or the disk failed, or memory ran out
abbrev pub IsBodyCause : List ℕ → OpenRefusal → Type 0
IsBodyCause body NotAStore = ⊥
IsBodyCause body (Damaged n) = (n ≡ 0) × ((commit : Commit) → IsBodyOf commit body → ⊥)
IsBodyCause body (ShapeDiffers kept asked) = ⊥
IsBodyCause body DiskFault = ⊤
IsBodyCause body OutOfMemory = ⊤
