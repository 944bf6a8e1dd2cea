-- Which pieces of a range can be read.
use Rattle.std.specs.Prelude.{ℕ, ◌≡◌, ◌≤◌, ◌+◌, ◌-◌, List, [], ◌∷◌, Some, slice_get}
use Rattle.fish_lang.specs.Definition.{Definition}
use Rattle.fish_plan.specs.declared.pieces.Piece.{Piece}
use Rattle.fish_plan.specs.declared.pieces.Piece.TheVariants.{Full, Index}
use Rattle.fish_rule.specs.declared.view.View.{View}
use Rattle.fish_scan.specs.within.Indices.{IsIndex}
use Rattle.fish_scan.specs.declared.reach.Reach.{Reach}

-- the numbers lie in the range
pub record IsPieceWithin (reach : Reach) (first last : ℕ) : Type 0 where
  pub from : reach.from ≤ first
  pub some : first ≤ last
  pub to : last ≤ reach.to

-- the pass knows all records of the numbers of a settled piece by an index, or looks at each of them
abbrev pub IsReadable : View → Definition → Reach → Piece → Type 0
IsReadable v def reach (Index id from to) = IsPieceWithin reach from to × (to ≤ reach.settled)
    × IsIndex v def id from to
IsReadable v def reach (Full from to) = IsPieceWithin reach from to

-- how many numbers a piece has that are looked at one by one
abbrev pub full_size : Piece → ℕ
full_size (Index id from to) = 0
full_size (Full from to) = to - from

-- and all pieces
abbrev pub full_numbers : List Piece → ℕ
full_numbers [] = 0
full_numbers (piece ∷ pieces) = full_size piece + full_numbers pieces

-- so they can all be
abbrev pub AreReadable : View → Definition → Reach → List Piece → Type 0
AreReadable v def reach pieces = (position : ℕ) (piece : Piece) → slice_get pieces position ≡ Some piece
    → IsReadable v def reach piece
