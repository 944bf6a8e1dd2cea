-- Where the indices of one definition hold. What private clauses need of it.
use Rattle.std.specs.Prelude.{◌≡◌, ℕ, ◌⊎◌, List, [], ◌∷◌, ◌++◌, Some}
use Rattle.fish_catalog.specs.declared.interval.Interval.{Interval}
use Rattle.fish_catalog.specs.declared.row.CatRow.{CatRow}

-- the interval of a row came after the others, where the row has the text and its index has begun
abbrev pub IsIntervalAdded : CatRow → List ℕ → List Interval → List Interval → Type 0
IsIntervalAdded row def old new = ((from : ℕ) × (row.def ≡ def) × (row.from ≡ Some from)
    × (new ≡ old ++ record { id = row.id; from = from; to = row.to } ∷ []))
    ⊎ (((from : ℕ) → row.def ≡ def → row.from ≡ Some from → ⊥) × (new ≡ old))
