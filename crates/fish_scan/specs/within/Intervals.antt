-- What a pass knows of the intervals of a definition once it has loaded the boundary words of its rows. What private
-- clauses need of it.
use Rattle.std.specs.Prelude.{ℕ, ◌≡◌, ◌⊎◌, suc, List, [], ◌∷◌, ◌++◌, Option, Some, None}
use Rattle.fish_catalog.specs.declared.interval.Interval.{Interval}
use Rattle.fish_catalog.specs.declared.listed.Listed.{Listed}
use Rattle.fish_rule.specs.Logs.{Extends}
use Rattle.fish_rule.specs.Registry.{row_at}
use Rattle.fish_rule.specs.Views.{Among}
use Rattle.fish_rule.specs.declared.view.View.{View}
use Rattle.fish_scan.specs.Intervals.{HasEndKnown, IsBegunInterval}

-- the second view is the first but for boundary words that were loaded
pub record OnlyBoundaries (v u : View) : Type 0 where
  pub extends : Extends v u
  pub settled : u.learned.settled ≡ v.learned.settled
  pub count : u.learned.count ≡ v.learned.count
  pub loads : u.clock.loads ≡ v.clock.loads

-- the pass knew of no beginning
abbrev pub IsUnbegun : View → ℕ → Type 0
IsUnbegun v id = (from : ℕ) → ¬ Among (record { index = row_at id 0; value = suc from }) v.learned.words

-- the interval of a row, if its index has begun
abbrev pub IsTaken : View → View → ℕ → Option Interval → Type 0
IsTaken v u id None = IsUnbegun v id
IsTaken v u id (Some x) = IsBegunInterval u v.learned.settled id x × HasEndKnown v id x

-- the interval of a row with the text came after others
pub record IsAdded (v u : View) (row : Listed) (text : List ℕ) (before after : List Interval) : Type 0 where
  pub interval : Interval
  pub text_is : row.def ≡ text
  pub begun : IsBegunInterval u v.learned.settled row.id interval
  pub ended : HasEndKnown v row.id interval
  pub added : after ≡ before ++ interval ∷ []

-- or none did where the row has another text or its index hasn't begun
abbrev pub AddsInterval : View → View → Listed → List ℕ → List Interval → List Interval → Type 0
AddsInterval v u row text before after = IsAdded v u row text before after
    ⊎ ((after ≡ before) × (row.def ≡ text → IsUnbegun v row.id))
