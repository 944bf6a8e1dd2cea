-- Bytes in memory, up to a room.
use Rattle.std.specs.Prelude.{ℕ, List, length, nat_le, Bool, Option, Some, None, option_and_then, if◌then◌else◌}

-- what is kept of bytes for which there is a room
pub record Bounded : Type 0 where
  -- for how many bytes there is room
  pub room : ℕ
  -- the bytes that are kept
  pub kept : List ℕ
  -- none was dropped, so these are all
  pub told : Bool

-- all bytes, as long as none of them was dropped
abbrev pub content_in : Bounded → Option (List ℕ)
content_in bytes = if bytes.told then Some bytes.kept else None

-- content that is told as long as it fits the room
abbrev pub content_within : ℕ → Option (List ℕ) → Option (List ℕ)
content_within room content =
    option_and_then (λ all. if nat_le (length all) room then Some all else None) content
