-- What a sink gets of a text that is written by pieces.
use Rattle.std.specs.Prelude.{◌≡◌, ℕ, List, ◌++◌, Option}
use Rattle.fish_outside.specs.Content.{Gained}

-- how many bytes a piece has at least, the last one aside
abbrev pub piece_size : ℕ
piece_size = 65536

-- a text was put after what waited; the sink got a first part of the two, and what is left of them waits
pub record PassesOn (old new : Option (List ℕ)) (waiting left text : List ℕ) : Type 0 where
  pub sent : List ℕ
  pub gained : Gained old new sent
  pub all : sent ++ left ≡ waiting ++ text

-- the sink got a first part of what waited and of a text
abbrev pub PassesPart : Option (List ℕ) → Option (List ℕ) → List ℕ → List ℕ → Type 0
PassesPart old new waiting text = (left : List ℕ) × PassesOn old new waiting left text
