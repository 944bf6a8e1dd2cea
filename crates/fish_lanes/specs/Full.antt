-- What lanes tell of a full log, and what they leave undone since it is.
use Rattle.std.specs.Prelude.{ℕ, ◌≡◌, ◌⊎◌, ◌++◌, List, [], ◌∷◌, ⊤}
use Rattle.fish_report.specs.declared.item.Item.{Item}
use Rattle.fish_report.specs.declared.item.Item.TheVariants as item
use Rattle.fish_rule.specs.Views.{AllOf}

-- ---- items

-- the item doesn't tell that the log is full
abbrev pub IsNotFull : Item → Type 0
IsNotFull (item.IngestFull file line lines end stored refused) = ⊥
IsNotFull x = ⊤

-- the last item tells that it is, and no other does
pub record EndsFull (items : List Item) : Type 0 where
  pub front : List Item
  pub file : List ℕ
  pub line : ℕ
  pub lines : ℕ
  pub end : ℕ
  pub stored : ℕ
  pub refused : ℕ
  pub is : items ≡ front ++ item.IngestFull file line lines end stored refused ∷ []
  pub none : AllOf IsNotFull front

-- none but the last of the items tells that it is
abbrev pub AreFullLast : List Item → Type 0
AreFullLast items = AllOf IsNotFull items ⊎ EndsFull items
