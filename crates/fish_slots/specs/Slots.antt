-- What an image of a store file says by its slots, and when its gates can be relied on.
use Rattle.std.specs.Prelude.{◌≡◌, ℕ, ◌*◌, ◌≤◌, List, [], ◌∷◌, drop}
use Rattle.byteorder.specs.Endian.{little_number}
use Rattle.fish_disk.specs.Content.{part}
use Rattle.fish_slots.specs.Offsets.{body_at, body_bytes, gate_at, lines_at}

-- the gate of the slot is open: its byte is there, and is 1
abbrev pub IsOpen : ℕ → List ℕ → Type 0
IsOpen slot c = part (gate_at slot) 1 c ≡ 1 ∷ []

-- the bytes of the slot's body
abbrev pub body_in_slot : ℕ → List ℕ → List ℕ
body_in_slot slot c = part (body_at slot) body_bytes c

-- the bytes of so many lines of the log
abbrev pub lines_in_slot : ℕ → List ℕ → List ℕ
lines_in_slot count c = part lines_at (32 * count) c

-- how many lines of the log a body counts, by its sixth word, lowest byte first
unfoldable pub line_count : List ℕ → ℕ
line_count body = little_number 8 (drop 40 body)

-- the slot has the same body in both images, and the lines that this body counts
abbrev pub SameSlot : ℕ → List ℕ → List ℕ → Type 0
SameSlot slot c d =
    (body_in_slot slot c ≡ body_in_slot slot d)
    × (lines_in_slot (line_count (body_in_slot slot d)) c ≡ lines_in_slot (line_count (body_in_slot slot d)) d)

-- A gate that stands open in what a crash left has a synced body and synced lines: each of the images
-- has them.
abbrev pub GatesAreSynced : (List ℕ → Type 0) → (List ℕ → Type 0) → Type 0
GatesAreSynced left images =
    (slot : ℕ) (c d : List ℕ) → slot ≤ 1 → left c → images d → IsOpen slot c → SameSlot slot c d
