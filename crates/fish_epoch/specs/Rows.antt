-- What a pass has read of rows.
use Rattle.std.specs.Prelude.{◌≡◌}
use Rattle.fish_rule.specs.Logs.{Extends}
use Rattle.fish_rule.specs.declared.view.View.{View}

-- the second view is the first but for what it learned of the registry since; no word of the log was loaded
pub record OnlyLearns (v u : View) : Type 0 where
  pub extends : Extends v u
  pub version : u.learned.version ≡ v.learned.version
  pub count : u.learned.count ≡ v.learned.count
  pub found : u.learned.found ≡ v.learned.found
  pub loads : u.clock.loads ≡ v.clock.loads
