-- What one step of the control pass on the definitions tells and leaves. Private clauses speak of it.
use Rattle.std.specs.Prelude.{ℕ, ◌≡◌, ◌≤◌, List, [], ◌∷◌, Option, Some, None}
use Rattle.fish_ingest.specs.Ingestion.{CanStart}
use Rattle.fish_lanes.specs.declared.block.Boundary.{Boundary}
use Rattle.fish_registry.specs.Knowing.{Knows}
use Rattle.fish_registry.specs.declared.registrar.Registrar.{Registrar}
use Rattle.fish_report.specs.declared.item.Item.{Item}
use Rattle.fish_report.specs.declared.item.Item.TheVariants as item
use Rattle.fish_rule.specs.Passes.{IsPassOf, view}
use Rattle.fish_rule.specs.declared.table.Log.{Log}
use Rattle.fish_rule.specs.declared.table.Pass.{Pass}

-- the control pass is out, and the registrar's rows are what it knows
pub record CanControl (log : Log) (pass : Pass) (r : Registrar) : Type 0 where
  pub of : IsPassOf log pass
  pub start : CanStart (view pass)
  pub knows : Knows (view pass) r

-- ---- boundaries

-- the items of a boundary that may have been found
abbrev pub bound_items : Option Boundary → List Item
bound_items None = []
bound_items (Some b) = item.Bound b.id b.from ∷ []

-- ---- registrations

-- a checkpoint that the item tells has no more entries than the last commit
abbrev pub IsCheckpointAtMost : ℕ → Item → Type 0
IsCheckpointAtMost count x = (n : ℕ) → x ≡ item.Checkpointed n → n ≤ count
