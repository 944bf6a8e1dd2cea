-- What was found in the lines or rows so far, and what one more adds.
use Rattle.std.specs.Prelude.{ℕ, ◌+◌, ◌++◌, List, [], ◌∷◌, Bool, if◌then◌else◌, Option, Some, None}
use Rattle.fish_value.specs.declared.row.Row.{Row}
use Rattle.fish_select.specs.declared.found.Found.{Found}

-- nothing yet
abbrev pub nothing : Found
nothing = record { rows = []; count = 0; refused = 0 }

-- a payload where it is kept
abbrev pub kept_if : Bool → List ℕ → Option (List ℕ)
kept_if has payload = if has then Some payload else None

-- the row of a payload that is kept, at its number
abbrev pub rows_with : ℕ → Option (List ℕ) → List Row
rows_with n None = []
rows_with n (Some payload) = record { number = n; payload = payload } ∷ []

-- one more record, whose payload is kept or not
abbrev pub with_record : Found → Option (List ℕ) → Found
with_record t kept = record t { rows = t.rows ++ rows_with t.count kept; count = t.count + 1 }

-- one more record, which is kept where it passes a test, or one more line or row that is none
abbrev pub with_outcome : (List ℕ → Bool) → Found → Option (List ℕ) → Found
with_outcome test t (Some payload) = with_record t (kept_if (test payload) payload)
with_outcome test t None = record t { refused = t.refused + 1 }

-- one after the other
abbrev pub with_outcomes : (List ℕ → Bool) → Found → List (Option (List ℕ)) → Found
with_outcomes test t [] = t
with_outcomes test t (o ∷ os) = with_outcomes test (with_outcome test t o) os
