-- What a pass gains by what it stores.
use Rattle.std.specs.Prelude.{ℕ, ◌≡◌, Some}
use Rattle.fish_rule.specs.Facts.{IsFound}
use Rattle.fish_rule.specs.Rule.{Rule}
use Rattle.fish_rule.specs.ChainFacts.{Always}
use Rattle.fish_rule.specs.World.{World}
use Rattle.fish_rule.specs.declared.view.Key.{Key}
use Rattle.fish_rule.specs.declared.view.Kind.TheVariants.{Mark}
use Rattle.fish_rule.specs.declared.view.Shut.{Shut}
use Rattle.fish_rule.specs.declared.view.View.{View}

-- some claim shut the pass
abbrev pub WasShut : View → Type 0
WasShut v = (s : Shut) × (v.shut ≡ Some s)

-- a claim that shut the pass still does
abbrev pub KeepsShut : View → View → Type 0
KeepsShut v u = (s : Shut) → v.shut ≡ Some s → u.shut ≡ Some s

-- the region at a line is a mark of so many lines
abbrev pub IsMarkAt : ℕ → ℕ → Key → World → Type 0
IsMarkAt line lines k w = (r : Rule k w)
    → (n : ℕ) × IsFound k w.count w.dir r.start (record { number = n; kind = Mark; line = line; lines = lines })

-- that what shut the pass is a mark is known for good
abbrev pub IsShutSaid : View → Type 0
IsShutSaid v = (s : Shut) → v.shut ≡ Some s → Always v (IsMarkAt s.line s.lines)
