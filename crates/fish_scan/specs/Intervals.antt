-- What a pass knows of the intervals of a definition once it has loaded the boundary words of its rows.
use Rattle.std.specs.Prelude.{ℕ, ◌≡◌, suc, List, Option, Some, None, slice_get}
use Rattle.fish_catalog.specs.declared.interval.Interval.{Interval}
use Rattle.fish_catalog.specs.declared.listed.Listed.{Listed}
use Rattle.fish_rule.specs.Intervals.{HasInterval}
use Rattle.fish_rule.specs.Registry.{row_at}
use Rattle.fish_rule.specs.Views.{Among}
use Rattle.fish_rule.specs.declared.view.View.{View}

-- the end of an interval, or what is settled where it has none
abbrev pub end_within : ℕ → Option ℕ → ℕ
end_within settled None = settled
end_within settled (Some to) = to

-- the index of the row with an id begins where the interval does, and was complete up to the interval's end; where the
-- interval has one, the pass read the word of that end
pub record IsBegunInterval (v : View) (settled id : ℕ) (x : Interval) : Type 0 where
  pub id_is : x.id ≡ id
  pub interval : HasInterval v id x.from (end_within settled x.to)
  pub ended : (to : ℕ) → x.to ≡ Some to → Among (record { index = row_at id 1; value = suc to }) v.learned.words

-- an end of the row with an id that the pass knew is the interval's end
abbrev pub HasEndKnown : View → ℕ → Interval → Type 0
HasEndKnown v id x = (to : ℕ) → Among (record { index = row_at id 1; value = suc to }) v.learned.words → x.to ≡ Some to

-- the interval is that of a row with the text
pub record IsListedIntervalOf (v : View) (settled : ℕ) (rows : List Listed) (text : List ℕ)
    (x : Interval) : Type 0 where
  pub row : Listed
  pub there : slice_get rows x.id ≡ Some row
  pub text_is : row.def ≡ text
  pub begun : IsBegunInterval v settled x.id x

-- the intervals are those of rows with the text, of each one of whose index the pass knew that it has begun; and they
-- end where the pass knew an end
pub record AreListedIntervals (v u : View) (rows : List Listed) (text : List ℕ)
    (intervals : List Interval) : Type 0 where
  pub each : (x : Interval) → Among x intervals → IsListedIntervalOf u v.learned.settled rows text x
  pub known : (id : ℕ) (row : Listed) → slice_get rows id ≡ Some row → row.def ≡ text
      → (from : ℕ) → Among (record { index = row_at id 0; value = suc from }) v.learned.words
      → (x : Interval) × Among x intervals × (x.id ≡ id)
  pub ended : (x : Interval) → Among x intervals → HasEndKnown v x.id x
