-- Which slot of an image counts, over bytes alone.
use Rattle.std.specs.Prelude.{◌≡◌, ℕ, ◌+◌, ◌-◌, ◌%◌, ◌≤◌, List, drop}
use Rattle.byteorder.specs.Endian.{little_number}
use Rattle.fish_slots.specs.Slots.{IsOpen, body_in_slot, line_count, lines_in_slot}

-- the turn that a body says, by its second word, lowest byte first
unfoldable pub turn_of : List ℕ → ℕ
turn_of body = little_number 8 (drop 8 body)

-- the turn after a turn
unfoldable pub next_turn : ℕ → ℕ
next_turn turn = (turn + 1) % 3

-- the slot counts in the image: its gate is open, these are its body and the lines that it counts, and where the other
-- gate is open too, its turn is the one after the other's
pub record SlotCounts (slot : ℕ) (body lines image : List ℕ) : Type 0 where
  pub gate : IsOpen slot image
  pub body_is : body_in_slot slot image ≡ body
  pub lines_are : lines_in_slot (line_count body) image ≡ lines
  pub newer : IsOpen (1 - slot) image → turn_of body ≡ next_turn (turn_of (body_in_slot (1 - slot) image))

-- the image's commit: the body of the slot that counts, and the lines that it counts
pub record HasCommit (body lines image : List ℕ) : Type 0 where
  pub slot : ℕ
  pub slot_is : slot ≤ 1
  pub counts : SlotCounts slot body lines image

-- the slot alone is open, with this body and these lines
pub record SlotRests (slot : ℕ) (body lines image : List ℕ) : Type 0 where
  pub gate : IsOpen slot image
  pub closed : IsOpen (1 - slot) image → ⊥
  pub body_is : body_in_slot slot image ≡ body
  pub lines_are : lines_in_slot (line_count body) image ≡ lines
