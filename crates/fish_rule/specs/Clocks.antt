-- How the clock of a pass goes on, and what it notes.
use Rattle.std.specs.Prelude.{ℕ, ◌≡◌, ◌≤◌, List, ◌++◌}
use Rattle.fish_rule.specs.Views.{Among}
use Rattle.fish_rule.specs.declared.view.Clock.{Clock}
use Rattle.fish_rule.specs.declared.view.Note.{Note}
use Rattle.fish_rule.specs.declared.view.Noted.{Noted}

-- the second clock is the first some steps later: no step and no load is taken back, and every note is kept
pub record IsLater (c d : Clock) : Type 0 where
  pub steps : c.steps ≤ d.steps
  pub loads : c.loads ≤ d.loads
  pub notes : List Note
  pub since : d.notes ≡ notes ++ c.notes

-- between the two clocks this was loaded, and found to have this value
pub record HasLoaded (c d : Clock) (what : Noted) (value : ℕ) : Type 0 where
  pub on : IsLater c d
  pub step : ℕ
  pub later : c.steps ≤ step
  pub among : Among (record { step = step; what = what; value = value }) on.notes
