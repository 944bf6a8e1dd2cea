-- What a commit leaves of a store file, over bytes alone. What private clauses need of it.
use Rattle.std.specs.Prelude.{◌≡◌, ◌⊎◌, ℕ, ◌+◌, ◌-◌, ◌*◌, ◌≤◌, List, length, Option, Some, IfSome}
use Rattle.fish_disk.specs.Content.{part}
use Rattle.fish_disk.specs.Crash.{Torn}
use Rattle.fish_slots.specs.Commits.{HasCommit, SlotRests, next_turn, turn_of}
use Rattle.fish_slots.specs.Offsets.{lines_at}
use Rattle.fish_slots.specs.Slots.{IsOpen, body_in_slot, line_count, lines_in_slot}

-- the piece stands at its place, and all else is as a write of it leaves it
abbrev pub HasPut : Option (List ℕ) → Option (List ℕ) → ℕ → List ℕ → Type 0
HasPut old new at piece =
    IfSome new (λ c. (o : List ℕ) × (old ≡ Some o) × Torn at (length piece) o c × (part at (length piece) c ≡ piece))

-- the lines stand at their place
abbrev pub IsPut : ℕ → List ℕ → List ℕ → Type 0
IsPut line lines c = (lines_at + 32 * line ≤ length c) × (part (lines_at + 32 * line) (length lines) c ≡ lines)

-- the gate of the slot is open, and the other one isn't
abbrev pub IsOnlyOpen : ℕ → List ℕ → Type 0
IsOnlyOpen slot c = IsOpen slot c × (IsOpen (1 - slot) c → ⊥)

-- the image has the one commit or the other
abbrev pub EitherCommit : List ℕ → List ℕ → List ℕ → List ℕ → List ℕ → Type 0
EitherCommit b w d v c = HasCommit b w c ⊎ HasCommit d v c

-- each image has one commit, in the other slot alone, whose lines end at a line; and a body counts these and more, with
-- the turn after it
pub record Grows (images : List ℕ → Type 0) (slot line : ℕ) (b w d more : List ℕ) : Type 0 where
  pub rests : (c : List ℕ) → images c → SlotRests (1 - slot) b w c
  pub long : (c : List ℕ) → images c → lines_at + 32 * line ≤ length c
  pub before : line_count b ≡ line
  pub whole : length w ≡ 32 * line
  pub after : 32 * line_count d ≡ 32 * line + length more
  pub turn : turn_of d ≡ next_turn (turn_of b)

-- so it is of a disk on which the lines stand at their place
pub record GrowsBy {D : Type 0} (content : D → Option (List ℕ)) (images : D → List ℕ → Type 0) (disk : D)
    (slot line : ℕ)
    (b w d more : List ℕ) : Type 0 where
  pub grows : Grows (images disk) slot line b w d more
  pub put : IfSome (content disk) (IsPut line more)

-- the slot has one body and its lines, and the other slot, whose gate is open, another
pub record IsSealed (slot : ℕ) (b w d v c : List ℕ) : Type 0 where
  pub gate : IsOpen (1 - slot) c
  pub old_body : body_in_slot (1 - slot) c ≡ b
  pub old_lines : lines_in_slot (line_count b) c ≡ w
  pub new_body : body_in_slot slot c ≡ d
  pub new_lines : lines_in_slot (line_count d) c ≡ v

-- so it is in each image, and the slot's gate is closed; its turn is the one after the other's
pub record AreSealed (images : List ℕ → Type 0) (slot : ℕ) (b w d v : List ℕ) : Type 0 where
  pub each : (c : List ℕ) → images c → IsSealed slot b w d v c
  pub closed : (c : List ℕ) → images c → IsOpen slot c → ⊥
  pub turn : turn_of d ≡ next_turn (turn_of b)
