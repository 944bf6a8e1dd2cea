-- What a call that settles numbers tells: how far it came, and why no further.
use Rattle.std.specs.Prelude.{ℕ, ◌≡◌, ◌<◌, Some}
use Rattle.std.proofs.Common.{◌⊎◌}
use Rattle.fish_rule.specs.Clocks.{HasLoaded, IsLater}
use Rattle.fish_rule.specs.Logs.{Learns, KnowsMark}
use Rattle.fish_rule.specs.World.{high, low}
use Rattle.fish_rule.specs.declared.view.Noted.TheVariants.{Directory, Tail}
use Rattle.fish_rule.specs.declared.view.View.{View}
use Rattle.fish_walk.specs.Looks.{KnowsEntry, look_of_word}
use Rattle.fish_walk.specs.declared.outcome.Look.TheVariants.{Overflow, Unfinished}

-- ---- loads

-- the count is one that the pass loaded between the two views
pub record HasLoadedCount (v u : View) (count : ℕ) : Type 0 where
  pub tail : ℕ
  pub loaded : HasLoaded v.clock u.clock Tail tail
  pub is : high tail ≡ count

-- ---- stops

-- a directory word that tells of a mark
abbrev pub IsMark : ℕ → Type 0
IsMark word = look_of_word word ≡ Overflow

-- a directory word at which the settled numbers end: one that tells of an unfinished number or a mark
abbrev pub IsEnd : ℕ → Type 0
IsEnd word = (look_of_word word ≡ Unfinished) ⊎ IsMark word

-- a number below the count whose directory word meets P, as the pass found it between the two views; before them it
-- didn't know an entry there
pub record HasEnd (P : ℕ → Type 0) (v u : View) (number count : ℕ) : Type 0 where
  pub below : number < count
  pub word : ℕ
  pub loaded : HasLoaded v.clock u.clock (Directory number) word
  pub ends : P word
  pub unknown : ¬ KnowsEntry v number

-- the number at which the settled ones stop: the count, or one whose word meets P
abbrev pub SettlesAt : (ℕ → Type 0) → View → View → ℕ → ℕ → Type 0
SettlesAt P v u number count = (number ≡ count) ⊎ HasEnd P v u number count

-- the log ends here, in every moment of a view that knows as much: at the count, or at a mark below it
abbrev pub EndsAt : View → ℕ → ℕ → Type 0
EndsAt v number count = (number ≡ count) ⊎ ((number < count) × KnowsMark v number)

-- the tail is at this count, which is the one that the pass knows
abbrev pub HasTail : View → ℕ → Type 0
HasTail v count = (tail : ℕ) × (v.tail ≡ Some (record { number = high tail; line = low tail })) × (high tail ≡ count)
    × (v.learned.count ≡ count)

-- ---- views

-- the second view is the first but for the tail and what was learned since; no word of the log was loaded
pub record OnlySettles (v u : View) : Type 0 where
  pub learns : Learns v u
  pub clock : IsLater v.clock u.clock
  pub loads : u.clock.loads ≡ v.clock.loads
  pub frame : u ≡ record v { tail = u.tail; learned = u.learned; clock = u.clock }
