-- A table that takes another one's place, where all of that is committed. What private clauses need of it.
use Rattle.std.specs.Prelude.{ℕ, ◌≡◌}
use Rattle.fish_rule.specs.ClosedLog.{IsClosed}
use Rattle.fish_rule.specs.declared.close.Remains.{Remains}
use Rattle.fish_rule.specs.declared.view.View.{View}

-- the log was closed, at this version
pub record IsClosedWith (v : View) (version : ℕ) : Type 0 where
  pub remains : Remains
  pub closed : IsClosed v remains
  pub is : remains.version ≡ version
