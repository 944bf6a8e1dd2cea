-- The pieces of a plan, cut where a table begins.
use Rattle.std.specs.Prelude.{ℕ, List, Option, Some, None, if◌then◌else◌, max, min, nat_lt}
use Rattle.std.specs.List.{filter_map}
use Rattle.fish_plan.specs.Pieces.{piece_from, piece_to}
use Rattle.fish_plan.specs.declared.pieces.Piece.{Piece}
use Rattle.fish_plan.specs.declared.pieces.Piece.TheVariants.{Full, Index}

-- the piece with other ends
abbrev pub piece_with_ends : Piece → ℕ → ℕ → Piece
piece_with_ends (Index id first last) from to = Index id from to
piece_with_ends (Full first last) from to = Full from to

-- what of a piece is at or past a number, if anything is
abbrev pub above_of : ℕ → Piece → Option Piece
above_of base piece =
    if nat_lt base (piece_to piece) then Some (piece_with_ends piece (max (piece_from piece) base) (piece_to piece))
    else None

-- what of it is below the number
abbrev pub below_of : ℕ → Piece → Option Piece
below_of base piece =
    if nat_lt (piece_from piece) base then Some (piece_with_ends piece (piece_from piece) (min (piece_to piece) base))
    else None

-- what of the pieces is at or past a number
abbrev pub pieces_above : ℕ → List Piece → List Piece
pieces_above base pieces = filter_map (above_of base) pieces

-- and what of them is below it
abbrev pub pieces_below : ℕ → List Piece → List Piece
pieces_below base pieces = filter_map (below_of base) pieces
