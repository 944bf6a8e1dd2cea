-- What `select` answers for a file, from the whole list of its bytes.
use Rattle.std.specs.Prelude.{ℕ, ◌≡◌, List, [], length, map, reverse, Option}
use Rattle.fish_lang.specs.Definition.{Definition}
use Rattle.fish_value.specs.Outcomes.{accepted, refused}
use Rattle.fish_psf.specs.Records.{evaluation}
use Rattle.fish_psf.specs.Select.{Entry, select, stored}
use Rattle.fish_report.specs.declared.item.Item.{Item}
use Rattle.fish_report.specs.declared.item.Item.TheVariants as item
use Rattle.fish_value.specs.declared.field.Form.{Form}
use Rattle.fish_value.specs.declared.row.Row.{Row}
use Rattle.fish_value.specs.declared.value.Value.{Value}
use Rattle.fish_select.specs.declared.found.Found.{Found}

-- payloads of a form as a log: each is stored, at its place
abbrev pub log_of : Form → List (List ℕ) → List Entry
log_of form payloads = map (stored 1 form) payloads

-- the payloads on which the definition has the value, newest first
unfoldable pub selection_rows : Definition → Value → Form → List (List ℕ) → List Row
selection_rows def v form payloads = select (log_of form payloads) (evaluation def) v 0 (length payloads) []

-- of the lines or rows of a file: its records with the value, how many records it has, and how many of them are none
unfoldable pub selection_of : Definition → Value → Form → List (Option (List ℕ)) → Item
selection_of def v form os = item.Select (selection_rows def v form (accepted os)) (length (accepted os)) (refused os)

-- the most records of a file that have numbers
abbrev pub most_records : ℕ
most_records = 4294967296

-- this was found in these lines or rows
pub record HasFoundRows (def : Definition) (v : Value) (form : Form) (os : List (Option (List ℕ))) (found : Found)
    : Type 0 where
  pub rows : reverse found.rows ≡ selection_rows def v form (accepted os)
  pub count : found.count ≡ length (accepted os)
  pub refused : found.refused ≡ refused os
