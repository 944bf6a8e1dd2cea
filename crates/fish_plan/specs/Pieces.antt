-- The pieces of a plan: where they lie, and which one holds a number.
use Rattle.std.specs.Prelude.{◌≡◌, ℕ, ◌<◌, ◌≤◌, List, [], ◌∷◌, Some, slice_get, cond, nat_lt}
use Rattle.fish_plan.specs.declared.pieces.Piece.{Piece}
use Rattle.fish_plan.specs.declared.pieces.Piece.TheVariants.{Index, Full}

-- the first number of a piece
abbrev pub piece_from : Piece → ℕ
piece_from (Index id from to) = from
piece_from (Full from to) = from

-- the first number after it
abbrev pub piece_to : Piece → ℕ
piece_to (Index id from to) = to
piece_to (Full from to) = to

-- none of the pieces is empty, each ends where the one before it begins, and together they fill the range
abbrev pub Fill : List Piece → ℕ → ℕ → Type 0
Fill [] from to = from ≡ to
Fill (x ∷ xs) from to = (piece_to x ≡ to) × (piece_from x < to) × Fill xs from (piece_from x)

-- the piece at this position holds the number
pub record IsIn (pieces : List Piece) (n position : ℕ) : Type 0 where
  pub piece : Piece
  pub there : slice_get pieces position ≡ Some piece
  pub begins : piece_from piece ≤ n
  pub ends : n < piece_to piece

-- one full piece for the range, or none where it is empty
abbrev pub one_full : ℕ → ℕ → List Piece
one_full from to = cond (nat_lt from to) (Full from to ∷ []) []
