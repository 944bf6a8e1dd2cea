-- What the tokens of a tape stand for, as the data that `serde_json` reads from the same text. What private clauses
-- need of it.
use Rattle.std.specs.Prelude.{option_and_then, is_some, MatchOption}
use Rattle.std.specs.Prelude.{◌≡◌, ℕ, ◌+◌, ◌-◌, List, [], ◌∷◌, nat_lt, if◌then◌else◌, Option, Some, None}
use Rattle.json.specs.Find.{BeginsWith, InItems}
use Rattle.json.specs.Json as json
use Rattle.json.specs.Token.{Token, begin_object, end_object, begin_array, end_array, key, string, number, boolean}
use Rattle.json.specs.Token.{null, bad}
use Rattle.serde_json.specs.Data.{Data, Items}
use Rattle.serde_json.specs.Read.{max_depth, number_of, of_items, of_json}

-- the tokens begin with a value whose data is d
abbrev pub StandsForData : List Token → Data → Type 0
StandsForData ts d = (j : json.Json) × BeginsWith ts j × (of_json j ≡ Some d)

-- the tokens stand within items whose data is ds
abbrev pub StandItems : List Token → Items → Type 0
StandItems ts ds = (js : json.Items) × InItems ts js × (of_items js ≡ Some ds)

-- r stands where the data o begins, if there is one
abbrev pub FindsData : Option (List Token) → Option Data → Type 0
FindsData r o = MatchOption r (o ≡ None) (λ ts. (e : Data) × (o ≡ Some e) × StandsForData ts e)

-- of n open objects and arrays, those that are open after a token: none where 127 were open and one more would be,
-- and none after a number that is out of range
abbrev pub open_behind : ℕ → Token → Option ℕ
open_behind n begin_object = if nat_lt n max_depth then Some (n + 1) else None
open_behind n end_object = Some (n - 1)
open_behind n begin_array = if nat_lt n max_depth then Some (n + 1) else None
open_behind n end_array = Some (n - 1)
open_behind n (key s) = Some n
open_behind n (string s) = Some n
open_behind n (number s) = if is_some (number_of s) then Some n else None
open_behind n (boolean b) = Some n
open_behind n null = Some n
open_behind n bad = Some n

-- the same after all tokens
abbrev pub open_after : ℕ → List Token → Option ℕ
open_after n [] = Some n
open_after n (t ∷ ts) = option_and_then (λ m. open_after m ts) (open_behind n t)
