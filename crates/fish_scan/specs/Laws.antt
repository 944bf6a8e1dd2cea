-- What a scan finds, as a selection: an equation in every moment.
use Rattle.std.specs.Prelude.{ℕ, ◌≡◌, ◌<◌, ◌≤◌, ◌↔◌, List, Some, slice_get}
use Rattle.fish_catalog.specs.declared.entry.Entry.TheVariants as entry
use Rattle.fish_lang.specs.Definition.{Definition}
use Rattle.fish_psf.specs.Records.{evaluation}
use Rattle.fish_psf.specs.Select.{Entry, select, stored}
use Rattle.fish_rule.specs.Logs.{IsEntry}
use Rattle.fish_rule.specs.Views.{Among}
use Rattle.fish_rule.specs.ChainFacts.{Always}
use Rattle.fish_rule.specs.World.{World}
use Rattle.fish_rule.specs.declared.view.View.{View}
use Rattle.fish_scan.specs.Matching.{Finds}
use Rattle.fish_value.specs.declared.field.Form.{Form}
use Rattle.fish_value.specs.declared.row.Row.{Row}
use Rattle.fish_value.specs.declared.value.Value.{Value}

-- in this moment the list has the log's records at the numbers from one on and below another, less the open ones
abbrev pub IsSpelled : World → ℕ → ℕ → List ℕ → List Entry → Type 0
IsSpelled w from to opens log = (n lane : ℕ) (form : Form) (payload : List ℕ) → from ≤ n → n < to → ¬ Among n opens
    → (slice_get log n ≡ Some (stored lane form payload)) ↔ IsEntry w n (entry.Stored lane form payload)

-- what was found is the selection of every list that a moment spells, of those whose view knows as much
abbrev pub FindsSelection : Type 0
FindsSelection = (v : View) (def : Definition) (value : Value) (from to : ℕ) (opens : List ℕ) (rows : List Row)
    → Finds v def value from to opens rows
    → Always v (λ k w. (log : List Entry) → IsSpelled w from to opens log
    → rows ≡ select log (evaluation def) value from to opens)
