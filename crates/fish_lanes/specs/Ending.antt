-- The control pass between two blocks: alone, and the log ends at a number that it knows.
use Rattle.std.specs.Prelude.{ℕ, ◌≡◌, ◌≤◌}
use Rattle.fish_lanes.specs.Gains.{IsShutSaid}
use Rattle.fish_rule.specs.LoadSteps.{IsAlone}
use Rattle.fish_rule.specs.declared.view.Epoch.TheVariants.{Out}
use Rattle.fish_rule.specs.declared.view.View.{View}
use Rattle.fish_walk.specs.Settling.{EndsAt, HasTail}

-- the pass has all lanes and nothing in flight, and the log has so many entries, no fewer than before the table
pub record EndsAlone (v : View) (to : ℕ) : Type 0 where
  pub alone : IsAlone v
  pub outside : v.epoch ≡ Out
  pub above : v.about.number ≤ to
  pub settled : to ≤ v.learned.settled
  pub count : ℕ
  pub counted : count ≤ v.learned.count
  pub tail : HasTail v count
  pub ends : EndsAt v to count
  pub marks : IsShutSaid v
