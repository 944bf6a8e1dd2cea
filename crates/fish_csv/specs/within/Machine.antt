-- Where the reading of a row stands, in the words of `csv`.
use Rattle.std.specs.Prelude.{◌≡◌, ◌⊎◌, ℕ, List, [], ◌∷◌, Bool, Option, Some, None, if◌then◌else◌}
use Rattle.csv.specs.Machine.{Read, next_record}
use Rattle.csv.specs.Reading.{default_config}
use Rattle.csv.specs.declared.parser.State.{State}
use Rattle.csv.specs.declared.parser.State.TheVariants as st
use Rattle.fish_csv.specs.declared.machine.Position.{Position}
use Rattle.fish_csv.specs.declared.machine.Position.TheVariants as position

-- the state of `csv` at a position
abbrev pub state_of : Position → State
state_of position.Row = st.StartRecord
state_of position.Field = st.StartField
state_of position.Plain = st.InField
state_of position.Quoted = st.InQuoted
state_of position.Closed = st.AfterQuote

-- the next row of what is left of a text, with the fields and the bytes of the field that were read of it
abbrev pub row_from : Position → List (List ℕ) → List ℕ → List ℕ → Option Read
row_from at fields field b = next_record default_config (state_of at) fields field b

-- a row has ended and no other has begun
abbrev pub IsBetweenRows : State → Type 0
IsBetweenRows s = (s ≡ st.StartRecord) ⊎ (s ≡ st.AfterCr)

-- whatever bytes come after it, the byte c leads from this position and these fields to another, or ends the row
abbrev pub ReadsNextField : Position → ℕ → List (List ℕ) → List ℕ → Option Position → List (List ℕ) → List ℕ → Type 0
ReadsNextField at c fields field None after next =
    (rest : List ℕ) → (s : State) × IsBetweenRows s × (row_from at fields field (c ∷ rest) ≡ Some (after, s, rest))
ReadsNextField at c fields field (Some to) after next =
    (rest : List ℕ) → row_from at fields field (c ∷ rest) ≡ row_from to after next rest

-- where the text ends, the row ends with these fields, or there is none
abbrev pub EndsRow : Position → List (List ℕ) → List ℕ → Bool → List (List ℕ) → Type 0
EndsRow at fields field found after =
    row_from at fields field [] ≡ (if found then Some (after, st.StartRecord, []) else None)
