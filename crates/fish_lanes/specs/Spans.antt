-- Between which numbers of the log, and between which versions, a block lies.
use Rattle.std.specs.Prelude.{ℕ, ◌≡◌, ◌+◌, Bool, List, Option, false, filter, true}
use Rattle.fish_report.specs.declared.item.Item.{Item}
use Rattle.fish_report.specs.declared.item.Item.TheVariants as item
use Rattle.fish_rule.specs.declared.view.Shut.{Shut}

-- the log's end before the block and after it, the versions there, how many lanes the block has, and the claim that had
-- found the log full before it
pub record Span : Type 0 where
  pub from : ℕ
  pub to : ℕ
  pub first : ℕ
  pub last : ℕ
  pub lanes : ℕ
  pub full : Option Shut

-- how many versions the item says were made
abbrev pub made_by : Item → ℕ
made_by (item.Registered name id from def) = 1
made_by (item.Rolling name id def seat version) = 1
made_by (item.Deregistered name id to) = 1
made_by x = 0

-- the block after an item of the first lane: the versions that it made are there
abbrev pub span_after : Item → Span → Span
span_after x s = record s { first = s.first + made_by x }

-- whether the item answers a statement: a boundary that was found later answers none
abbrev pub is_answer : Item → Bool
is_answer (item.Bound id from) = false
is_answer x = true

abbrev pub IsAnswerItem : Item → Type 0
IsAnswerItem x = is_answer x ≡ true

-- the items that answer a statement each
abbrev pub answers : List Item → List Item
answers items = filter is_answer items
