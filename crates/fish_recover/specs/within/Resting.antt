-- A store that was found, and one that is at rest, over bytes alone.
use Rattle.std.specs.Prelude.{ℕ, ◌≡◌, ◌+◌, ◌-◌, ◌*◌, ◌≤◌, ◌↔◌, List, Bool, IsTrue, length}
use Rattle.fish_slots.specs.Commits.{SlotCounts, SlotRests}
use Rattle.fish_slots.specs.Offsets.{body_bytes, lines_at}
use Rattle.fish_slots.specs.Slots.{IsOpen, line_count}

-- the body is a whole one, and so are the lines that it counts
pub record AreWhole (body lines : List ℕ) : Type 0 where
  pub body_size : length body ≡ body_bytes
  pub lines_size : length lines ≡ 32 * line_count body

-- every image has this body and these lines in the slot that counts, and the other gate is open in all or in none
pub record AreStored (images : List ℕ → Type 0) (slot : ℕ) (both : Bool) (body lines : List ℕ) : Type 0 where
  pub whole : AreWhole body lines
  pub counts : (i : List ℕ) → images i → SlotCounts slot body lines i
  pub other : (i : List ℕ) → images i → (IsTrue both ↔ IsOpen (1 - slot) i)

-- every image has them in the slot that alone is open
pub record AreAtRest (images : List ℕ → Type 0) (slot : ℕ) (body lines : List ℕ) : Type 0 where
  pub whole : AreWhole body lines
  pub rests : (i : List ℕ) → images i → SlotRests slot body lines i

-- every image has a place for lines after those that the body counts
abbrev pub AreLong : (List ℕ → Type 0) → List ℕ → Type 0
AreLong images body = (i : List ℕ) → images i → lines_at + 32 * line_count body ≤ length i
