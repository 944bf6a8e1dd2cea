-- How many words of the file the pieces below the base may load, as the counter that is handed in counts them. What
-- private clauses need of it.
use Rattle.std.specs.Prelude.{ℕ}
use Rattle.fish_rule.specs.declared.view.View.{View}
use Rattle.fish_scan.specs.OlderWork.{IsWalkAllowed}
use Rattle.fish_scan.specs.Work.{RisesBy}

-- by what such a walk is allowed
abbrev pub IsWalkWork : View → View → ℕ → ℕ → ℕ → Type 0
IsWalkWork v u b old new = (most : ℕ) × IsWalkAllowed u b most × RisesBy v u old new most
