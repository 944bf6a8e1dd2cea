-- Which records of a log have a value: the whole meaning of a scan.
use Rattle.std.specs.Prelude.{ℕ, ◌==◌, ◌&&◌, List, reverse, Bool, not, nat_le, nat_lt, Option, Some, None, if◌then◌else◌}
use Rattle.std.specs.List.{enumerate_from, filter_map, list_any}
use Rattle.fish_value.specs.Same.{same_value}
use Rattle.fish_value.specs.declared.field.Form.{Form}
use Rattle.fish_value.specs.declared.row.Row.{Row}
use Rattle.fish_value.specs.declared.value.Value.{Value}

-- what stands at a number of a log: a stored record with its lane, form and payload, the padding at a page's
-- end, or a record whose writer hasn't published it
pub data Entry : Type 0 where
  stored : ℕ → Form → List ℕ → Entry
  void : Entry
  unfinished : Entry

-- what a definition gives for a payload of a form
abbrev pub Evaluation : Type 0
Evaluation = Form → List ℕ → List Value

-- this value is among those that the definition gives
abbrev pub has_value : List Value → Value → Bool
has_value vs v = list_any (λ w. same_value w v) vs

-- the number is among the open ones
abbrev pub is_open : List ℕ → ℕ → Bool
is_open opens n = list_any (λ o. o == n) opens

-- the row of an entry, where it is stored and has the value
abbrev pub row_if : Evaluation → Value → ℕ → Entry → Option Row
row_if eval v n (stored lane form payload) =
    if has_value (eval form payload) v then Some (record { number = n; payload = payload }) else None
row_if eval v n void = None
row_if eval v n unfinished = None

-- the row of a number and its entry, where the number is in the range and not open
abbrev pub selected_row : Evaluation → Value → ℕ → ℕ → List ℕ → ℕ × Entry → Option Row
selected_row eval v from to opens e =
    if nat_le from e.0 && nat_lt e.0 to && not (is_open opens e.0) then row_if eval v e.0 e.1 else None

-- the rows of the log, newest first, whose numbers are in the range and not open and whose records have the value
unfoldable pub select : List Entry → Evaluation → Value → ℕ → ℕ → List ℕ → List Row
select log eval v from to opens = reverse (filter_map (selected_row eval v from to opens) (enumerate_from 0 log))
