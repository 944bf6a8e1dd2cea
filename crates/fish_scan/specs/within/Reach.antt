-- How far a scan looks, and what it found there. What private clauses need of it.
use Rattle.std.specs.Prelude.{ℕ, ◌≡◌, ◌≢◌, ◌+◌, ◌<◌, ◌≤◌, ◌⊎◌, List, Option, Some, length, max, min, slice_get}
use Rattle.fish_rule.specs.LoadSteps.{IsAlone}
use Rattle.fish_rule.specs.Logs.{KnowsMark}
use Rattle.fish_rule.specs.Views.{Among}
use Rattle.fish_rule.specs.declared.view.Key.{Key}
use Rattle.fish_rule.specs.declared.view.View.{View}
use Rattle.fish_scan.specs.Reach.{IsExact, IsRange, Rise, WasOpen}
use Rattle.fish_scan.specs.declared.reach.Reach.{Reach}
use Rattle.fish_walk.specs.Looks.{HasOpens, IsLookAt}
use Rattle.fish_walk.specs.Settling.{IsEnd, SettlesAt}
use Rattle.fish_walk.specs.declared.outcome.Look.TheVariants.{Overflow, Unfinished}
use Rattle.fish_walk.specs.declared.outcome.Look.{Look}

-- these looks were made at the numbers from one on, none of them told of a mark, and the unfinished numbers among them
-- are exactly the open ones
pub record AreSeen (v : View) (first : ℕ) (looks : List Look) (opens : List ℕ) : Type 0 where
  pub each : (i : ℕ) (look : Look) → slice_get looks i ≡ Some look → IsLookAt v (first + i) look × (look ≢ Overflow)
  pub unfinished : (i : ℕ) → slice_get looks i ≡ Some Unfinished → Among (first + i) opens
  pub open_ones : (n : ℕ) → Among n opens → (i : ℕ) × (n ≡ first + i) × (slice_get looks i ≡ Some Unfinished)

-- the numbers of a range were counted; up to a first one those of the table are settled, and from there on each was
-- looked at
pub record IsReached (v : View) (reach : Reach) : Type 0 where
  pub settled : reach.settled ≤ v.learned.settled
  pub counted : reach.to ≤ v.learned.count
  pub many : reach.first + length reach.looks.items ≡ reach.to
  pub ordered : reach.from ≤ reach.to
  pub below : (n : ℕ) → v.about.number ≤ n → reach.from ≤ n → n < reach.first → n < reach.settled
  pub above : min reach.settled reach.to ≤ reach.first
  pub seen : AreSeen v reach.first reach.looks.items reach.opens

-- where the part of the range begins that is in the table, which is at the range's end where no number of it is
abbrev pub first_in : Key → Reach → ℕ
first_in k reach = min (max reach.from k.number) reach.to

-- ---- what is found on the way

-- the numbers from the first on were looked at, up to an end or a mark, with these looks and open numbers
pub record AreLooks (v u : View) (first end count : ℕ) (looks : List Look) (opens : List ℕ) : Type 0 where
  pub seen : AreSeen u first looks opens
  pub few : first + length looks ≤ end
  pub stops : (first + length looks ≡ end) ⊎ KnowsMark u (first + length looks)
  pub listed : HasOpens u count opens
  pub were : (n : ℕ) → Among n opens → WasOpen v u n
  pub rise : Rise first (first + length looks) opens

-- the end of a range, or the number at which the settled ones stop, which is a mark before it
abbrev pub IsCutAt : View → ℕ → ℕ → ℕ → ℕ → Type 0
IsCutAt v stop from end found = (found ≡ end) ⊎ ((stop < from) × (stop < end) × (found ≡ stop) × KnowsMark v stop)

-- ---- the range of a scan

-- how far a scan looks
pub record IsReach (v u : View) (from : ℕ) (to : Option ℕ) (reach : Reach) : Type 0 where
  pub range : IsRange v u from to reach.from reach.to reach.opens
  -- what of it is in the table can be read, and the open numbers are
  pub reached : IsReached u reach
  pub opened : (n : ℕ) → Among n reach.opens → u.about.number ≤ n
  -- it is settled as far as this call found: up to the count, or to a number at which it loaded no entry's word
  pub stops_at : SettlesAt IsEnd v u reach.settled range.count
  -- and at least as far as the pass knew
  pub settled : v.learned.settled ≤ reach.settled
  pub reaches : reach.settled ≤ u.learned.settled
  pub exact : IsAlone v → IsExact v u to range.count reach.settled reach.to reach.opens
