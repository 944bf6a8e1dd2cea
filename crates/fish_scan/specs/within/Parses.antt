-- Which records a scan parses: the stored ones of its plan's full pieces that aren't open, each once. What private
-- clauses need of it.
use Rattle.std.specs.Prelude.{ℕ, List, [], ◌∷◌}
use Rattle.fish_plan.specs.Pieces.{piece_from, piece_to}
use Rattle.fish_plan.specs.declared.pieces.Piece.{Piece}
use Rattle.fish_rule.specs.declared.view.View.{View}
use Rattle.fish_scan.specs.Parses.{HasParsed}

-- of one piece a scan parsed the stored records that aren't open
abbrev pub HasParsedPiece : View → List ℕ → Piece → ℕ → ℕ → Type 0
HasParsedPiece v opens piece old new = HasParsed v opens (piece ∷ []) (piece_from piece) (piece_to piece) old new
