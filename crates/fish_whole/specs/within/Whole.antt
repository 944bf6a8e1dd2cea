-- What the whole log of a store may be in the end. What private clauses need of it.
use Rattle.std.specs.Prelude.{ℕ, ◌+◌, ◌≤◌, length}
use Rattle.fish_rule.specs.declared.view.View.{View}
use Rattle.fish_whole.specs.Whole.{MayHold, Whole, WholeFact}

-- the fact holds of each whole whose table leaves all numbers below an end
abbrev pub MustHoldUpTo : Whole → View → ℕ → WholeFact → Type 0
MustHoldUpTo past v end Q = (w : Whole) → (m : MayHold past v w) → end ≤ length past.log + length m.remains.log → Q w
