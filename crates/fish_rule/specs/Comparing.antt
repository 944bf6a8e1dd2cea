-- What passes found of regions, compared where one pass knows it all, as laws.
use Rattle.std.specs.Prelude.{◌≡◌, ◌+◌, ◌<◌, ◌≤◌}
use Rattle.fish_rule.specs.Logs.{Learns}
use Rattle.fish_rule.specs.Table.{IsOfMoment}
use Rattle.fish_rule.specs.Views.{Among}
use Rattle.fish_rule.specs.declared.view.Found.{Found}
use Rattle.fish_rule.specs.declared.view.View.{View}

-- two passes found a region each, as the marks that shut them, and in some moment a pass knows what both know, as it
-- does after their join
pub record AreBothFound (v u x : View) (f g : Found) : Type 0 where
  pub first : Among f v.learned.found
  pub second : Among g u.learned.found
  pub with_first : Learns v x
  pub with_second : Learns u x
  pub stands : IsOfMoment x

-- two regions with one line are one claim: one number, one kind, and as many lines
abbrev pub OneLineIsOneClaim : Type 0
OneLineIsOneClaim = (v u x : View) (f g : Found) → AreBothFound v u x f g → f.line ≡ g.line → f ≡ g

-- two regions with one number are one claim
abbrev pub OneNumberIsOneClaim : Type 0
OneNumberIsOneClaim = (v u x : View) (f g : Found) → AreBothFound v u x f g → f.number ≡ g.number → f ≡ g

-- of two regions the one with the lower number ends at or before the line of the other
abbrev pub RegionsFollow : Type 0
RegionsFollow = (v u x : View) (f g : Found) → AreBothFound v u x f g → f.number < g.number
    → f.line + f.lines ≤ g.line
