-- The pieces of a plan, cut where a table begins. What private clauses need of it.
use Rattle.std.specs.Prelude.{ℕ, ◌≤◌, List, Some, max, min, ◌≡◌, slice_get}
use Rattle.fish_lang.specs.Definition.{Definition}
use Rattle.fish_plan.specs.declared.pieces.Piece.TheVariants.{Full, Index}
use Rattle.fish_plan.specs.declared.pieces.Piece.{Piece}
use Rattle.fish_rule.specs.declared.view.Key.{Key}
use Rattle.fish_rule.specs.declared.view.View.{View}
use Rattle.fish_scan.specs.within.Indices.{IsIndex}
use Rattle.fish_scan.specs.declared.reach.Reach.{Reach}

-- where the part of the range ends that is below the table, which is at its beginning where no number of it is
abbrev pub last_below : Key → Reach → ℕ
last_below k reach = max reach.from (min reach.to k.number)

-- a piece below the table can be read: in the file each of its numbers is looked at, or an index holds them
abbrev pub IsOlderReadable : View → Definition → ℕ → Piece → Type 0
IsOlderReadable v def base (Index id from to) = (from ≤ to) × (to ≤ base) × IsIndex v def id from to
IsOlderReadable v def base (Full from to) = (from ≤ to) × (to ≤ base)

-- so each of them can
abbrev pub AreOlderReadable : View → Definition → ℕ → List Piece → Type 0
AreOlderReadable v def base pieces = (position : ℕ) (piece : Piece) → slice_get pieces position ≡ Some piece
    → IsOlderReadable v def base piece
