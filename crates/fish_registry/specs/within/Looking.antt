-- How the control pass looks at the lanes. What private clauses need of it.
use Rattle.std.specs.Prelude.{ℕ, ◌≡◌, ◌<◌, suc, ◌∷◌, None}
use Rattle.fish_registry.specs.Changing.{Changes, HasLoadedTail}
use Rattle.fish_registry.specs.Knowing.{IsAwaited}
use Rattle.fish_registry.specs.Looking.{at_lane}
use Rattle.fish_registry.specs.declared.looking.Older.{Older}
use Rattle.fish_registry.specs.declared.registrar.Waiting.{Waiting}
use Rattle.fish_rule.specs.Clocks.{HasLoaded, IsLater}
use Rattle.fish_rule.specs.Registry.{row_at}
use Rattle.fish_rule.specs.Views.{Among}
use Rattle.fish_rule.specs.declared.view.Noted.TheVariants.{Epoch}
use Rattle.fish_rule.specs.declared.view.View.{View}

-- the second view is the first but for the lanes that were looked at
pub record Looks (v u : View) : Type 0 where
  pub frame : u ≡ record v { round = u.round; clock = u.clock }
  pub clock : IsLater v.clock u.clock
  pub loads : u.clock.loads ≡ v.clock.loads

-- the epoch word of the lane, loaded in between, told an older version than the registration's; the lanes below are
-- clear
pub record IsOlderLane (v : View) (w : Waiting) (u : View) (o : Older) : Type 0 where
  pub awaited : IsAwaited u (at_lane w o.lane)
  pub loaded : HasLoaded v.clock u.clock (Epoch o.lane) (suc o.version)
  pub less : o.version < w.version

-- the index of the registration begins at the count of the tail that was loaded in between, and none waits any more
pub record HasBound (v : View) (w : Waiting) (u : View) (from : ℕ) : Type 0 where
  pub changes : Changes v u
  pub counted : HasLoadedTail v u from
  pub control_words : u.control_words ≡ record { index = row_at w.id 0; value = suc from } ∷ v.control_words
  pub read : Among (record { index = row_at w.id 0; value = suc from }) u.learned.words
  pub rows : u.rows ≡ v.rows
  pub round : u.round ≡ None
  pub count : u.learned.count ≡ from
