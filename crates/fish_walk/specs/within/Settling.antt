-- What a call that settles numbers tells: how far it came, and why no further. What private clauses need of it.
use Rattle.std.specs.Prelude.{ℕ, ◌≡◌, ◌≢◌, ◌<◌, ◌≤◌, []}
use Rattle.fish_rule.specs.Logs.{Extends}
use Rattle.fish_rule.specs.Views.{Among}
use Rattle.fish_rule.specs.declared.view.Found.{Found}
use Rattle.fish_rule.specs.declared.view.Kind.TheVariants.{Mark}
use Rattle.fish_rule.specs.declared.view.View.{View}
use Rattle.fish_walk.specs.Looks.{HasOpens}

-- ---- stops

-- each number from the first up to the last was found published, and no mark
abbrev pub AreSettled : View → ℕ → ℕ → Type 0
AreSettled v first last = (n : ℕ) → first ≤ n → n < last
    → (f : Found) × Among f v.learned.found × (f.number ≡ n) × (f.kind ≢ Mark)

-- ---- views

-- the pass may look at each number from the first up to the count
pub record CanSettle (v : View) (first count : ℕ) : Type 0 where
  pub above : v.about.number ≤ first
  pub below : count ≤ v.learned.count

-- the second view is the first but for what looks told since, which load no word of the log
pub record OnlyLooks (v u : View) : Type 0 where
  pub extends : Extends v u
  pub count : u.learned.count ≡ v.learned.count
  pub settled : u.learned.settled ≡ v.learned.settled
  pub loads : u.clock.loads ≡ v.clock.loads
  pub opens : (count : ℕ) → HasOpens v count [] → HasOpens u count []

-- the second view is the first but for the settled number, which is at least this one
pub record OnlyRaises (v u : View) (number : ℕ) : Type 0 where
  pub extends : Extends v u
  pub reaches : number ≤ u.learned.settled
  pub count : u.learned.count ≡ v.learned.count
  pub opens : u.learned.opens ≡ v.learned.opens
  pub loads : u.clock.loads ≡ v.clock.loads
