-- Numbers that a pass knows to be published.
use Rattle.std.specs.Prelude.{ℕ, ◌<◌}
use Rattle.fish_rule.specs.Parts.{IsEntryWord}
use Rattle.fish_rule.specs.ChainFacts.{Always}
use Rattle.fish_rule.specs.declared.view.View.{View}

-- the pass counted the number, and in every moment of a view that knows as much it is published and no mark
pub record IsPublished (v : View) (n : ℕ) : Type 0 where
  pub counted : n < v.learned.count
  pub entry : Always v (λ k w. IsEntryWord (w.dir n))
