-- Where an index is complete: what a pass knows of a definition and of a range of numbers before it goes down a chain.
-- What private clauses need of it.
use Rattle.std.specs.Prelude.{ℕ, ◌≡◌, ◌≤◌, ◌<◌, ◌⊎◌, List, [], ◌∷◌, ◌++◌, Option, Some, None, slice_get}
use Rattle.fish_catalog.specs.declared.entry.Entry.TheVariants as entry
use Rattle.fish_catalog.specs.declared.listed.Listed.{Listed}
use Rattle.fish_chain.specs.Values.{HasValue}
use Rattle.fish_chain.specs.declared.walk.Node.{Node}
use Rattle.fish_lang.specs.Definition.{Definition}
use Rattle.fish_lang.specs.Language.{IsAccepted}
use Rattle.fish_psf.specs.SelectLaw.{FallsBelow}
use Rattle.fish_rule.specs.ChainFacts.{Always, IsNodeIn}
use Rattle.fish_rule.specs.Intervals.{HasInterval}
use Rattle.fish_rule.specs.Logs.{KnowsAs}
use Rattle.fish_rule.specs.Registry.{KnowsDefinitions}
use Rattle.fish_rule.specs.Views.{Among}
use Rattle.fish_rule.specs.declared.view.View.{View}
use Rattle.fish_scan.specs.Matching.{Matches}
use Rattle.fish_value.specs.declared.field.Form.{Form}
use Rattle.fish_value.specs.declared.row.Row.{Row}
use Rattle.fish_value.specs.declared.value.Value.{Value}

-- each record of the range has its key entries by a definition that is this one, as a row of the registry with the id
-- says
pub record IsIndex (v : View) (def : Definition) (id from to : ℕ) : Type 0 where
  pub version : ℕ
  pub rows : List Listed
  pub knows : KnowsDefinitions v.about v.learned version rows
  pub listed : Listed
  pub there : slice_get rows id ≡ Some listed
  pub means : IsAccepted listed.def def
  pub begin : ℕ
  pub end : ℕ
  pub interval : HasInterval v id begin end
  pub after : begin ≤ from
  pub before : to ≤ end

-- on its way down the bucket's chain, with all entries at or above a place passed, these rows were found: the records
-- of the range that have the value in an entry so high
pub record Gathers (v : View) (def : Definition) (value : Value) (id bucket from to given : ℕ) (rows : List Row)
    : Type 0 where
  pub falls : FallsBelow to rows
  pub above : (row : Row) → Among row rows → from ≤ row.number
  pub sound : (row : Row) → Among row rows → Always v (Matches def value row)
  pub complete : (row : Row) (c p : ℕ) → from ≤ row.number → row.number < to
      → Always v (λ k w. IsNodeIn bucket row.number c p id k w → HasValue row.number c value k w → given ≤ p
      → Matches def value row k w → Among row rows)
  -- an entry further down with the value is that of an older record
  pub older : (row : Row) → Among row rows
      → Always v (λ k w. (n c p : ℕ) → IsNodeIn bucket n c p id k w → HasValue n c value k w → p < given
      → n < row.number)

-- the entry has the value, and its record this payload; or it has another value
abbrev pub IsValued : View → Value → Node → Option (List ℕ) → Type 0
IsValued v value node None = Always v (λ k w. ¬ HasValue node.number node.key value k w)
IsValued v value node (Some payload) = Always v (HasValue node.number node.key value)
    × ((lane : ℕ) × (form : Form) × KnowsAs v node.number (entry.Stored lane form payload))

-- the row of an entry that has the value came after others
pub record IsNodeRowOf (v : View) (value : Value) (node : Node) (payload : List ℕ)
    (before after : List Row) : Type 0 where
  pub valued : IsValued v value node (Some payload)
  pub added : after ≡ before ++ record { number = node.number; payload = payload } ∷ []

-- or none where it has another value
abbrev pub AddsNode : View → Value → Node → List Row → List Row → Type 0
AddsNode v value node before after = ((payload : List ℕ) × IsNodeRowOf v value node payload before after)
    ⊎ ((after ≡ before) × IsValued v value node None)
