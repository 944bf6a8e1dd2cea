-- Sizes at a version that the pass knew, and what shuts it.
use Rattle.std.specs.Prelude.{ℕ, ◌≡◌, ◌⊎◌, ◌≤◌, List, Some}
use Rattle.fish_catalog.specs.declared.listed.Listed.{Listed}
use Rattle.fish_report.specs.declared.item.Item.{Item}
use Rattle.fish_rule.specs.Registry.{KnowsDefinitions}
use Rattle.fish_rule.specs.declared.view.Shut.{Shut}
use Rattle.fish_rule.specs.declared.view.View.{View}
use Rattle.fish_value.specs.declared.field.Form.{Form}
use Rattle.fish_lanes.specs.Sizes.{HasSize, SaysClaim}

-- so they are at a version that the pass knew between the two views
pub record IsSizeBetween (v u : View) (form : Form) (payload : List ℕ) (lines : ℕ) : Type 0 where
  pub version : ℕ
  pub least : v.learned.version ≤ version
  pub rows : List Listed
  pub knows : KnowsDefinitions u.about u.learned version rows
  pub size : HasSize rows form payload lines

-- what shuts the pass did so before, or an item tells of it
abbrev pub SaysShut : View → View → List Item → Type 0
SaysShut v u items = (c : Shut) → u.shut ≡ Some c → (v.shut ≡ Some c) ⊎ SaysClaim c items
