-- The law of a selection, in the subject's words.
use Rattle.std.specs.Prelude.{ℕ, ◌≡◌, ◌<◌, ◌≤◌, ◌↔◌, List, [], ◌∷◌, length, Some, slice_get, Contains, ⊤}
use Rattle.fish_value.specs.declared.field.Form.{Form}
use Rattle.fish_value.specs.declared.row.Row.{Row}
use Rattle.fish_value.specs.declared.value.Value.{Value}
use Rattle.fish_psf.specs.Select.{Entry, stored, Evaluation, select}

-- a row is a match where its number is in the range and not open, and the log has at this number a stored
-- record with this payload, on which the definition has the value
pub record IsMatch (log : List Entry) (eval : Evaluation) (v : Value) (from to : ℕ)
    (opens : List ℕ) (row : Row) : Type 0 where
  pub above : from ≤ row.number
  pub below : row.number < to
  pub closed : ¬ Contains opens row.number
  pub selected : (lane : ℕ) × (form : Form) × (slice_get log row.number ≡ Some (stored lane form row.payload))
      × Contains (eval form row.payload) v

-- the numbers fall strictly from row to row, from below n on
abbrev pub FallsBelow : ℕ → List Row → Type 0
FallsBelow n [] = ⊤
FallsBelow n (row ∷ rows) = (row.number < n) × FallsBelow row.number rows

-- a selection holds exactly the matches, and its numbers fall strictly
abbrev pub SelectsMatches : Type 0
SelectsMatches =
    (log : List Entry) (eval : Evaluation) (v : Value) (from to : ℕ) (opens : List ℕ)
    → ((row : Row) → Contains (select log eval v from to opens) row ↔ IsMatch log eval v from to opens row)
    × FallsBelow (length log) (select log eval v from to opens)
