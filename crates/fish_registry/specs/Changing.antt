-- How the control pass goes on in a call that changes the registry.
use Rattle.std.specs.Prelude.{ℕ, ◌≡◌, ◌≤◌, Some}
use Rattle.fish_rule.specs.Clocks.{HasLoaded, IsLater}
use Rattle.fish_rule.specs.Views.{Among}
use Rattle.fish_rule.specs.World.{high}
use Rattle.fish_rule.specs.declared.view.Noted.TheVariants.{Tail}
use Rattle.fish_rule.specs.declared.view.Opens.{Opens}
use Rattle.fish_rule.specs.declared.view.Position.{Position}
use Rattle.fish_rule.specs.declared.view.RegistryWord.{RegistryWord}
use Rattle.fish_rule.specs.declared.view.View.{View}

-- the second view is the first but for what the control pass knows of the registry and of the tail; no word of the log
-- was loaded
pub record Changes (v u : View) : Type 0 where
  pub frame : u ≡ record v {
    rows = u.rows;
    control_words = u.control_words;
    round = u.round;
    tail = u.tail;
    learned = record v.learned {
      count = u.learned.count;
      version = u.learned.version;
      words = u.learned.words;
      opens = u.learned.opens;
    };
    clock = u.clock;
  }
  pub count : v.learned.count ≤ u.learned.count
  pub version : v.learned.version ≤ u.learned.version
  pub words : (x : RegistryWord) → Among x v.learned.words → Among x u.learned.words
  pub opens : (o : Opens) → Among o v.learned.opens → Among o u.learned.opens
  pub clock : IsLater v.clock u.clock
  pub loads : u.clock.loads ≡ v.clock.loads

-- the second view is the first but for its clock
pub record OnlyLoads (v u : View) : Type 0 where
  pub frame : u ≡ record v { clock = u.clock }
  pub clock : IsLater v.clock u.clock
  pub loads : u.clock.loads ≡ v.clock.loads

-- the number is the count of the tail that was loaded in between
pub record HasLoadedTail (v u : View) (n : ℕ) : Type 0 where
  pub tail : ℕ
  pub loaded : HasLoaded v.clock u.clock Tail tail
  pub is : n ≡ high tail

-- the number is the one at which the pass knew the tail
abbrev pub IsAtTail : View → ℕ → Type 0
IsAtTail v n = (at : Position) → v.tail ≡ Some at → n ≡ at.number
