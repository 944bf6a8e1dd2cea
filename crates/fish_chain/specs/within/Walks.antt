-- What a walk down the chain of a bucket gives: the key entries of the settled records in its range, newest first. What
-- private clauses need of it.
use Rattle.std.proofs.Common.{◌⊎◌}
use Rattle.std.specs.Prelude.{ℕ, ◌<◌}
use Rattle.fish_chain.specs.Walks.{IsWalkRest}
use Rattle.fish_rule.specs.ChainFacts.{Always, IsClear}
use Rattle.fish_rule.specs.ChainSteps.{HasNode}
use Rattle.fish_rule.specs.declared.table.Walk.{Walk}
use Rattle.fish_rule.specs.declared.view.View.{View}

-- a walk may go on at this place after the entry where it stands: the place is lower, that of an entry of the
-- bucket or none of the table's, and no entry of the range lies between
pub record LeadsTo (v : View) (walk : Walk) (place : ℕ) : Type 0 where
  pub lower : place < walk.place
  pub at : IsWalkRest v walk.bucket walk.from place ⊎ HasNode v walk.bucket place
  pub clear : Always v (IsClear walk.bucket walk.from walk.to walk.place place)
