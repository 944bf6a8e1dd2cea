-- What is kept of a line that no LF has ended yet. What private clauses need of it.
use Rattle.std.specs.Prelude.{ℕ, Bool, List, [], ◌∷◌, if◌then◌else◌}

-- a CR or nothing
abbrev pub cr_if : Bool → List ℕ
cr_if cr = if cr then 13 ∷ [] else []
