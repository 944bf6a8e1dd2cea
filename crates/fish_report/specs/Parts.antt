-- The parts of which the text of an item is made: names of files, ranges, lists of numbers, rows and plans.
use Rattle.std.specs.Prelude.{ℕ, ◌==◌, ◌&&◌, List, [], ◌∷◌, ◌++◌, length, decimal, codes, Bool, not}
use Rattle.std.specs.Prelude.{nat_le, nat_lt, if◌then◌else◌}
use Rattle.std.specs.List.{flat_map, list_all}
use Rattle.fish_value.specs.BareWord.{is_bare_word}
use Rattle.fish_value.specs.Json.{quoted}
use Rattle.fish_value.specs.declared.row.Row.{Row}
use Rattle.fish_plan.specs.declared.pieces.Piece.{Piece}
use Rattle.fish_plan.specs.declared.pieces.Piece.TheVariants.{Index, Full}

-- a file's name stands bare where it can, else as a JSON string
unfoldable pub file_text : List ℕ → List ℕ
file_text s = if is_bare_word s then s else quoted s

-- `F..T`
unfoldable pub range_text : ℕ → ℕ → List ℕ
range_text from to = decimal from ++ (codes ".." ++ decimal to)

-- ` stored S refused R`, and the end of the line
unfoldable pub counts_text : ℕ → ℕ → List ℕ
counts_text stored refused =
    codes " stored " ++ (decimal stored ++ (codes " refused " ++ (decimal refused ++ codes "\n")))

-- `none`, or the numbers with a comma between each two
abbrev pub numbers_text : List ℕ → List ℕ
numbers_text [] = codes "none"
numbers_text (first ∷ rest) = decimal first ++ flat_map (λ n. codes "," ++ decimal n) rest

-- a row: its number, the length of its payload in bytes, and its payload
unfoldable pub row_text : Row → List ℕ
row_text row = decimal row.number ++ (32 ∷ (decimal (length row.payload) ++ (32 ∷ (row.payload ++ (10 ∷ [])))))

-- a line for each row
abbrev pub rows_text : List Row → List ℕ
rows_text rows = flat_map row_text rows

-- `index F..T by I`, or `full F..T`
abbrev pub piece_text : Piece → List ℕ
piece_text (Index id from to) = codes "index " ++ (range_text from to ++ (codes " by " ++ decimal id))
piece_text (Full from to) = codes "full " ++ range_text from to

-- `none`, or the pieces with a blank between each two
abbrev pub pieces_text : List Piece → List ℕ
pieces_text [] = codes "none"
pieces_text (first ∷ rest) = piece_text first ++ flat_map (λ piece. codes " " ++ piece_text piece) rest
