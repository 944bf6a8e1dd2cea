-- The same disk reads what it read.
use Rattle.std.proofs.Common.{◌≡◌, ℕ, List, Option, Some, None, refl, subst, sym}
use Rattle.std.specs.Prelude.{IfSome}
use Rattle.fish_cold.specs.Carries.{CarriesTable}
use Rattle.fish_cold.specs.declared.cold.Cold.{Cold}
use Rattle.fish_disk.specs.Content.{StillReads}
use Rattle.fish_rule.specs.declared.view.Key.{Key}

-- what a disk reads it reads
pub still_self : (o : Option (List ℕ)) → StillReads o o
still_self None = tt
still_self (Some i) = refl

-- the same content carries the same table
pub table_same : (old new : Option (List ℕ)) (k : Key) (cold later : Cold) → new ≡ old → later ≡ cold → CarriesTable old k cold
    → IfSome new (λ i. CarriesTable new k later)
table_same old None k cold later same kept t = tt
table_same old (Some i) k cold later same kept t =
    subst (λ (o : Option (List ℕ)). CarriesTable o k later) (sym same) (subst (CarriesTable old k) (sym kept) t)
