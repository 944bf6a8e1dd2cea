-- Which records of a range have a value: what a scan finds, in every moment of the log.
use Rattle.std.specs.Prelude.{ℕ, ◌<◌, ◌≤◌, List}
use Rattle.fish_catalog.specs.declared.entry.Entry.TheVariants as entry
use Rattle.fish_lang.specs.Definition.{Definition}
use Rattle.fish_psf.specs.Records.{GivesValue}
use Rattle.fish_psf.specs.SelectLaw.{FallsBelow}
use Rattle.fish_rule.specs.Logs.{IsEntry}
use Rattle.fish_rule.specs.Views.{Among}
use Rattle.fish_rule.specs.ChainFacts.{Always}
use Rattle.fish_rule.specs.World.{World}
use Rattle.fish_rule.specs.declared.view.Key.{Key}
use Rattle.fish_rule.specs.declared.view.View.{View}
use Rattle.fish_value.specs.declared.field.Form.{Form}
use Rattle.fish_value.specs.declared.row.Row.{Row}
use Rattle.fish_value.specs.declared.value.Value.{Value}

-- a record with this payload stands at the row's number, and the definition gives the value for it
abbrev pub Matches : Definition → Value → Row → Key → World → Type 0
Matches def value row k w = (lane : ℕ) × (form : Form)
    × IsEntry w row.number (entry.Stored lane form row.payload) × GivesValue def form row.payload value

-- the rows are exactly the records from a number on and below another, less the open ones, for which the definition
-- gives the value, newest first: in every moment of a pass that knows as much
pub record Finds (v : View) (def : Definition) (value : Value) (from to : ℕ) (opens : List ℕ) (rows : List Row)
    : Type 0 where
  pub falls : FallsBelow to rows
  pub above : (row : Row) → Among row rows → from ≤ row.number
  pub closed : (row : Row) → Among row rows → ¬ Among row.number opens
  pub sound : (row : Row) → Among row rows → Always v (Matches def value row)
  pub complete : (row : Row) → from ≤ row.number → row.number < to → ¬ Among row.number opens
      → Always v (λ k w. Matches def value row k w → Among row rows)
