-- What a call leaves of a pass.
use Rattle.std.specs.Prelude.{ℕ, ◌≡◌, ◌⊎◌}
use Rattle.fish_rule.specs.Clocks.{IsLater}
use Rattle.fish_rule.specs.Logs.{Learns}
use Rattle.fish_rule.specs.Views.{Among}
use Rattle.fish_rule.specs.declared.view.Found.{Found}
use Rattle.fish_rule.specs.declared.view.Kind.{Kind}
use Rattle.fish_rule.specs.declared.view.Kind.TheVariants.{Mark}
use Rattle.fish_rule.specs.declared.view.Shut.{Shut}
use Rattle.fish_rule.specs.declared.view.View.{View}

-- the first view with what the second one has that an ingest may change
abbrev pub moved : View → View → View
moved v u = record v {
  shut = u.shut;
  flight = u.flight;
  epoch = u.epoch;
  tail = u.tail;
  own = u.own;
  learned = u.learned;
  clock = u.clock;
}

-- the second view is of the same pass, later, and knows what the first knew
pub record OnlyIngests (v u : View) : Type 0 where
  pub learns : Learns v u
  pub clock : IsLater v.clock u.clock
  pub frame : u ≡ moved v u

-- what was found since are numbers of regions whose kind meets P
abbrev pub FoundSince : (Kind → Type 0) → View → View → Type 0
FoundSince P v u = (x : Found) → Among x u.learned.found → Among x v.learned.found ⊎ P x.kind

-- the pass found the region of this claim to be a mark
abbrev pub HasMark : View → Shut → Type 0
HasMark v s = (n : ℕ) × Among (record { number = n; kind = Mark; line = s.line; lines = s.lines }) v.learned.found
