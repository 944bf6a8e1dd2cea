-- Which records below the base have a value: what a scan finds there, among the entries for which the disk stands. What
-- private clauses need of it.
use Rattle.std.specs.Prelude.{ℕ, ◌≡◌, ◌+◌, ◌<◌, ◌≤◌, List, ◌++◌, Some, slice_get}
use Rattle.fish_catalog.specs.declared.entry.Entry.TheVariants.{Stored}
use Rattle.fish_catalog.specs.declared.entry.Entry.{Entry}
use Rattle.fish_lang.specs.Definition.{Definition}
use Rattle.fish_psf.specs.Records.{GivesValue}
use Rattle.fish_psf.specs.SelectLaw.{FallsBelow}
use Rattle.fish_rule.specs.Views.{Among}
use Rattle.fish_value.specs.declared.field.Form.{Form}
use Rattle.fish_value.specs.declared.row.Row.{Row}
use Rattle.fish_value.specs.declared.value.Value.{Value}

-- the entry at the row's number is a record with this payload, and the definition gives the value for it
abbrev pub IsOlderMatch : List Entry → Definition → Value → Row → Type 0
IsOlderMatch entries def value row = (lane : ℕ) × (form : Form)
    × (slice_get entries row.number ≡ Some (Stored lane form row.payload))
    × GivesValue def form row.payload value

-- the rows are exactly the records from a number on and below another for which the definition gives the value, newest
-- first
pub record FindsOlder (entries : List Entry) (def : Definition) (value : Value) (from to : ℕ) (rows : List Row)
    : Type 0 where
  pub falls : FallsBelow to rows
  pub above : (row : Row) → Among row rows → from ≤ row.number
  pub sound : (row : Row) → Among row rows → IsOlderMatch entries def value row
  pub complete : (row : Row) → from ≤ row.number → row.number < to → IsOlderMatch entries def value row → Among row rows

-- exactly these rows were put after those before
abbrev pub AddsOlder : List Entry → Definition → Value → ℕ → ℕ → List Row → List Row → Type 0
AddsOlder entries def value from to before after = (rows : List Row) × (after ≡ before ++ rows)
    × FindsOlder entries def value from to rows
