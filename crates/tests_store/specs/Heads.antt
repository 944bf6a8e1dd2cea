-- The heads with which a log begins.
use Rattle.std.specs.Prelude.{ℕ, ◌≡◌, List, length, slice_index}
use Rattle.fish_rule.specs.Parts.{IsOlderPlace}

-- so many heads, each of older records than those from the line on
pub record AreOlder (line count : ℕ) (heads : List ℕ) : Type 0 where
  pub many : length heads ≡ count
  pub older : (b : ℕ) → IsOlderPlace line (slice_index heads b)
