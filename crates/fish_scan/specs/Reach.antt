-- How far a scan looks, and what it found there.
use Rattle.std.specs.Prelude.{ℕ, ◌≡◌, ◌<◌, ◌≤◌, ◌⊎◌, List, [], ◌∷◌, Option, min, suc}
use Rattle.std.specs.Option.{unwrap_or}
use Rattle.fish_rule.specs.Clocks.{HasLoaded}
use Rattle.fish_rule.specs.Logs.{KnowsMark}
use Rattle.fish_rule.specs.OpenNumbers.{AreLast}
use Rattle.fish_rule.specs.Views.{Among}
use Rattle.fish_rule.specs.declared.view.Noted.TheVariants.{Directory}
use Rattle.fish_rule.specs.declared.view.View.{View}
use Rattle.fish_walk.specs.Looks.{IsTailCount, KnowsEntry}
use Rattle.fish_walk.specs.Settling.{EndsAt, HasLoadedCount}

-- ---- what is found on the way

-- the numbers rise, from one on and below another
abbrev pub Rise : ℕ → ℕ → List ℕ → Type 0
Rise low high [] = low ≤ high
Rise low high (n ∷ ns) = (low ≤ n) × Rise (suc n) high ns

-- between the two views the pass loaded the number's directory word, and it was 0: its record wasn't published; before
-- them it didn't know an entry there
pub record WasOpen (v u : View) (n : ℕ) : Type 0 where
  pub loaded : HasLoaded v.clock u.clock (Directory n) 0
  pub unknown : ¬ KnowsEntry v n

-- ---- the range of a scan

-- the end that is asked for, if it isn't past the count
abbrev pub end_of : Option ℕ → ℕ → ℕ
end_of to count = min (unwrap_or to count) count

-- the numbers from one on up to another are those of a scan that was asked for these: as far as it was asked and any
-- were claimed, or up to a mark
pub record IsRange (v u : View) (from : ℕ) (to : Option ℕ) (first last : ℕ) (opens : List ℕ) : Type 0 where
  pub first_is : first ≡ min from last
  -- so many were claimed, and as many as the pass knew
  pub count : ℕ
  pub counted : HasLoadedCount v u count
  pub known : v.learned.count ≤ count
  pub claimed : count ≤ u.learned.count
  pub within : last ≤ end_of to count
  pub stops : (last ≡ end_of to count) ⊎ (KnowsMark u last × (u.about.number ≤ last))
  -- the open numbers rise, none was published when the pass looked, and each is the last of its lane in the range
  pub rise : Rise first last opens
  pub were : (n : ℕ) → Among n opens → WasOpen v u n
  pub latest : AreLast u last opens
  -- and every other number of the range from the log's first one on is published, and no mark
  pub others : (n : ℕ) → v.about.number ≤ n → first ≤ n → n < last → ¬ Among n opens → KnowsEntry u n

-- a pass that was alone knows all of the log. So many numbers are claimed as it knew by the tail, and the log ends at
-- the settled number; the range goes up to there, or as far as it was asked, so all of it is settled; and no number is
-- open
pub record IsExact (v u : View) (to : Option ℕ) (count settled last : ℕ) (opens : List ℕ) : Type 0 where
  pub counted : IsTailCount count v.tail
  pub ends : EndsAt u settled count
  pub last_is : last ≡ end_of to settled
  pub closed : opens ≡ []
