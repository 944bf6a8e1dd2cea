-- What is read number by number, and what each of them gives. What private clauses need of it.
use Rattle.std.specs.Prelude.{ℕ, ◌≡◌, List, ◌++◌, Option, Some, None, IsTrue, ⊤}
use Rattle.fish_catalog.specs.declared.entry.Entry.TheVariants as entry
use Rattle.fish_catalog.specs.declared.entry.Entry.{Entry}
use Rattle.fish_lang.specs.Definition.{Definition}
use Rattle.fish_psf.specs.Records.{GivesValue, is_record}
use Rattle.fish_rule.specs.declared.view.View.{View}
use Rattle.fish_scan.specs.Matching.{Finds}
use Rattle.fish_value.specs.declared.row.Row.{Row}
use Rattle.fish_value.specs.declared.value.Value.{Value}

-- an entry's payload is a record of its form
abbrev pub IsParsable : Entry → Type 0
IsParsable (entry.Stored lane form payload) = IsTrue (is_record form payload)
IsParsable entry.Void = ⊤

-- the payload of a record for which the definition gives the value, and none of any other entry
abbrev pub IsMatching : Definition → Value → Entry → Option (List ℕ) → Type 0
IsMatching def value (entry.Stored lane form payload) (Some found) =
    (payload ≡ found) × GivesValue def form payload value
IsMatching def value (entry.Stored lane form payload) None = ¬ GivesValue def form payload value
IsMatching def value entry.Void (Some found) = ⊥
IsMatching def value entry.Void None = ⊤

-- the rows of a range, newest first, came after those before
abbrev pub Adds : View → Definition → Value → ℕ → ℕ → List ℕ → List Row → List Row → Type 0
Adds v def value from to opens before after = (rows : List Row) × (after ≡ before ++ rows)
    × Finds v def value from to opens rows
