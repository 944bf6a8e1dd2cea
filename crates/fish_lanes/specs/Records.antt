-- The records that a lane stores in a block, in order, and those of a lane in a log.
use Rattle.std.specs.Prelude.{ℕ, ◌≡◌, ◌⊎◌, ◌-◌, suc, List, [], ◌∷◌, take, drop}
use Rattle.std.proofs.Math.Decide.{ℕ_discrete}
use Rattle.fish_catalog.specs.declared.entry.Entry.{Entry}
use Rattle.fish_catalog.specs.declared.entry.Entry.TheVariants as entry
use Rattle.fish_layout.specs.Cleared.{choose}
use Rattle.fish_value.specs.declared.field.Form.{Form}

-- a record of a lane
pub record LaneRow : Type 0 where
  pub number : ℕ
  pub form : Form
  pub payload : List ℕ

-- a form and a payload
abbrev pub Content : Type 0
Content = Form × List ℕ

abbrev pub contents_of_rows : List LaneRow → List Content
contents_of_rows [] = []
contents_of_rows (r ∷ rows) = (r.form, r.payload) ∷ contents_of_rows rows

-- one of the rows has the number
abbrev pub HasNumber : ℕ → List LaneRow → Type 0
HasNumber n [] = ⊥
HasNumber n (r ∷ rows) = (r.number ≡ n) ⊎ HasNumber n rows

-- the records of a lane among entries, the first of which has a number
abbrev pub rows_from : ℕ → ℕ → List Entry → List LaneRow
rows_from lane n [] = []
rows_from lane n (entry.Stored l form payload ∷ entries) = choose (ℕ_discrete l lane)
    (record { number = n; form = form; payload = payload } ∷ rows_from lane (suc n) entries)
    (rows_from lane (suc n) entries)
rows_from lane n (entry.Void ∷ entries) = rows_from lane (suc n) entries

-- the records of a lane in a log, from a number on and below another
abbrev pub rows_of_lane : List Entry → ℕ → ℕ → ℕ → List LaneRow
rows_of_lane log from to lane = rows_from lane from (take (to - from) (drop from log))

-- their forms and payloads
abbrev pub contents_of_lane : List Entry → ℕ → ℕ → ℕ → List Content
contents_of_lane log from to lane = contents_of_rows (rows_of_lane log from to lane)
