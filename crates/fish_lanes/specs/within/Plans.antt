-- The boundaries of rows as words that a pass has read, and plans that are so by them.
use Rattle.std.specs.Prelude.{ℕ, ◌≡◌, ◌<◌, ◌≤◌, suc, List, Some, slice_get}
use Rattle.fish_catalog.specs.declared.row.CatRow.{CatRow}
use Rattle.fish_lanes.specs.Registering.{Registry}
use Rattle.fish_lanes.specs.declared.work.Work.{Work}
use Rattle.fish_registry.specs.Knowing.{IsBoundRead}
use Rattle.fish_report.specs.declared.item.Item.{Item}
use Rattle.fish_rule.specs.Registry.{row_at}
use Rattle.fish_rule.specs.Views.{Among}
use Rattle.fish_rule.specs.declared.view.View.{View}
use Rattle.fish_lanes.specs.Plans.{PlansHold, KnowsListed}

-- the boundaries of the rows are words that the pass has read
abbrev pub AreReadBounds : View → List CatRow → Type 0
AreReadBounds v rows = (id : ℕ) (row : CatRow) → slice_get rows id ≡ Some row
    → IsBoundRead v (row_at id 0) row.from × IsBoundRead v (row_at id 1) row.to

-- the boundary words that the pass has read are those of the rows
pub record AreBoundsIn (v : View) (rows : List CatRow) : Type 0 where
  pub from : (id n : ℕ) → id < 256 → Among (record { index = row_at id 0; value = suc n }) v.learned.words
      → (row : CatRow) × (slice_get rows id ≡ Some row) × (row.from ≡ Some n)
  pub to : (id n : ℕ) → id < 256 → Among (record { index = row_at id 1; value = suc n }) v.learned.words
      → (row : CatRow) × (slice_get rows id ≡ Some row) × (row.to ≡ Some n)

-- between two views, the items of a lane say this of any rows whose boundaries its pass has read after them
abbrev pub PlansHoldFor : View → View → Registry → List Work → List Item → Type 0
PlansHoldFor v u r works items = (rows : List CatRow) (from : ℕ) → AreBoundsIn u rows → from ≤ v.learned.settled
    → PlansHold (KnowsListed u) r rows from works items
