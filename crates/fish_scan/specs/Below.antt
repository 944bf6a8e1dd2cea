-- What the pieces below the base give, and what they may load, on a disk that carries its table.
use Rattle.std.specs.Prelude.{ℕ, ◌≡◌, ◌+◌, List, [], ◌∷◌}
use Rattle.fish_catalog.specs.declared.entry.Entry.{Entry}
use Rattle.fish_cold.specs.Carries.{IsPrior}
use Rattle.fish_image.specs.Reached.{Reached}
use Rattle.fish_plan.specs.declared.pieces.Piece.{Piece}
use Rattle.fish_plan.specs.declared.pieces.Piece.TheVariants.{Full, Index}
use Rattle.fish_rule.specs.declared.view.View.{View}
use Rattle.fish_scan.specs.Indices.{bucket_of_value}
use Rattle.fish_scan.specs.Older.{stored_within}
use Rattle.fish_scan.specs.OlderWork.{IsOlderFullAllowed, IsOlderIndexAllowed, IsWalkAllowed}
use Rattle.fish_value.specs.declared.row.Row.{Row}
use Rattle.fish_value.specs.declared.value.Value.{Value}

-- how many records of a piece are parsed: all of a full one
abbrev pub older_parses_of : List Entry → Piece → ℕ
older_parses_of entries (Index id from to) = 0
older_parses_of entries (Full from to) = stored_within entries from to

-- and of all pieces
abbrev pub older_parses : List Entry → List Piece → ℕ
older_parses entries [] = 0
older_parses entries (piece ∷ pieces) = older_parses_of entries piece + older_parses entries pieces

-- a piece is allowed so many loads in the table and in the file
abbrev pub IsOlderAllowed : {image : List ℕ} {count : ℕ} {end : Reached} → IsPrior image count end → View → Value
    → List Row → Piece
    → ℕ → ℕ → Type 0
IsOlderAllowed prior v value rows (Index id from to) walked most = IsWalkAllowed v (bucket_of_value v id value) walked
    × IsOlderIndexAllowed prior (bucket_of_value v id value) rows from to most
IsOlderAllowed prior v value rows (Full from to) walked most = (walked ≡ 0) × IsOlderFullAllowed prior from to most

-- and all pieces together
abbrev pub AreOlderAllowed : {image : List ℕ} {count : ℕ} {end : Reached} → IsPrior image count end → View → Value
    → List Row
    → List Piece → ℕ → ℕ → Type 0
AreOlderAllowed prior v value rows [] walked most = (walked ≡ 0) × (most ≡ 0)
AreOlderAllowed prior v value rows (piece ∷ pieces) walked most = (one : ℕ) × (first : ℕ) × (others : ℕ) × (rest : ℕ)
    × (walked ≡ one + others) × (most ≡ first + rest) × IsOlderAllowed prior v value rows piece one first
    × AreOlderAllowed prior v value rows pieces others rest
