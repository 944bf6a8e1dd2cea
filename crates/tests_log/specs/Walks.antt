-- A walk that has given all its nodes.
use Rattle.std.specs.Prelude.{ℕ, ◌≡◌}
use Rattle.fish_chain.specs.Walks.{IsPastPlace, IsWalking}
use Rattle.fish_rule.specs.declared.table.Walk.{Walk}
use Rattle.fish_rule.specs.declared.view.View.{View}

-- the walk, over numbers from the first on, is past the table
pub record HasWalked (v : View) (walk : Walk) (from : ℕ) : Type 0 where
  pub walking : IsWalking v walk
  pub past : IsPastPlace v walk.place
  pub from_is : walk.from ≡ from
