-- What stood before a table, as a disk tells it.
use Rattle.std.specs.Prelude.{ℕ, ◌≡◌, List, Option, IsSome, ⊤}
use Rattle.fish_cold.specs.Carries.{CarriesTable}
use Rattle.fish_cold.specs.declared.cold.Cold.{Cold}
use Rattle.fish_rule.specs.declared.view.Key.{Key}
use Rattle.fish_whole.specs.Whole.{Whole}

-- whatever stood before it
abbrev pub anywhere : Whole → Type 0
anywhere past = ⊤

-- a disk with this content carries the table, and what stood before the table are the entries that it has
pub record IsHere (content : Option (List ℕ)) (k : Key) (cold : Cold) (past : Whole) : Type 0 where
  pub table : CarriesTable content k cold
  pub entries : table.end.entries ≡ past.log

-- the same at an earlier moment, of a disk whose content is told later
pub record WasHere (content : Option (List ℕ)) (k : Key) (cold : Cold) (later : Option (List ℕ)) (past : Whole)
    : Type 0 where
  pub here : IsHere content k cold past
  pub told : IsSome later
