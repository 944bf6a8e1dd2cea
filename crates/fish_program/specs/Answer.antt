-- What `select` answers, from the whole list of a file's bytes.
use Rattle.std.specs.Prelude.{◌≡◌, ◌<◌, ◌⊎◌, ℕ, List, [], ◌∷◌, length, Bool, Some}
use Rattle.fish_feed.specs.Parts.{IsTooLong}
use Rattle.fish_lang.specs.Definition.{Definition}
use Rattle.fish_lines.specs.File.{outcomes}
use Rattle.fish_value.specs.Outcomes.{accepted}
use Rattle.fish_outside.specs.Content.{Files}
use Rattle.fish_report.specs.declared.item.Item.{Item}
use Rattle.fish_report.specs.declared.item.Item.TheVariants as item
use Rattle.fish_select.specs.Selection.{most_records, selection_of}
use Rattle.fish_value.specs.declared.field.Form.{Form}
use Rattle.fish_value.specs.declared.value.Value.{Value}

-- the file is too long to be read, or has more records than there are numbers
abbrev pub PassesLimits : Form → Bool → List ℕ → Type 0
PassesLimits form header b = IsTooLong form b ⊎ (most_records < length (accepted (outcomes form header b)))

-- the item is the selection of the file, or says of one that is too long that it is
abbrev pub Answers : Definition → Value → Form → Bool → List ℕ → List ℕ → Item → Type 0
Answers def v form header file b x =
    (x ≡ selection_of def v form (outcomes form header b))
    ⊎ ((x ≡ item.SelectTooLong file) × PassesLimits form header b)

-- the one item answers for the bytes of the file with this name
abbrev pub IsFileAnswer : (List ℕ → Item → Type 0) → List ℕ → Files → List Item → Type 0
IsFileAnswer answers file files items =
    (b : List ℕ) × (x : Item) × (files file ≡ Some b) × (items ≡ x ∷ []) × answers b x
