-- What a walk down a bucket's chain tells of the log, now and in every later moment. What private clauses need of it.
use Rattle.std.specs.Prelude.{ℕ, ◌<◌, ◌≤◌}
use Rattle.fish_rule.specs.ChainFacts.{IsEntryIn}
use Rattle.fish_rule.specs.World.{World}
use Rattle.fish_rule.specs.declared.view.Key.{Key}

-- no entry of such a record is at the place
abbrev pub IsNowhere : ℕ → ℕ → ℕ → Key → World → Type 0
IsNowhere from to p k w = (b n c : ℕ) → from ≤ n → n < to → ¬ IsEntryIn b n c p k w
