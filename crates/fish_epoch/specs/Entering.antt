-- What a pass knows once it is entered.
use Rattle.std.specs.Prelude.{ℕ, ◌≡◌, ◌+◌, ◌≤◌}
use Rattle.fish_rule.specs.Clocks.{HasLoaded, IsLater}
use Rattle.fish_rule.specs.Logs.{Learns}
use Rattle.fish_rule.specs.declared.view.Epoch.TheVariants.{Confirmed}
use Rattle.fish_rule.specs.declared.view.Noted.TheVariants.{Version}
use Rattle.fish_rule.specs.declared.view.View.{View}

-- the second view is the first but for its epoch and what it learned of the registry since; no word of the log was
-- loaded
pub record OnlyEnters (v u : View) : Type 0 where
  pub learns : Learns v u
  pub clock : IsLater v.clock u.clock
  pub frame : u ≡ record v { epoch = u.epoch; learned = u.learned; clock = u.clock }
  pub count : u.learned.count ≡ v.learned.count
  pub found : u.learned.found ≡ v.learned.found
  pub loads : u.clock.loads ≡ v.clock.loads

-- the pass is entered at a version, which it has loaded on the way and knows to be the last, after at most 513 rounds
-- of two steps and one step more
pub record HasEntered (v : View) (version : ℕ) (u : View) : Type 0 where
  pub keeps : OnlyEnters v u
  pub epoch : u.epoch ≡ Confirmed version
  pub known : u.learned.version ≡ version
  pub loaded : HasLoaded v.clock u.clock Version version
  pub few : version ≤ 512
  pub rounds : u.clock.steps ≤ v.clock.steps + 1027
