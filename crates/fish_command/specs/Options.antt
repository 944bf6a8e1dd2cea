-- The options of commands, and what each asks for.
use Rattle.std.specs.Prelude.{ℕ, ◌&&◌, ℤ, pos, List, [], ◌∷◌, true, false, codes, nat_le, Option, Some, None}
use Rattle.std.specs.Prelude.{is_some, option_map, option_and_then, if◌then◌else◌}
use Rattle.std.specs.Str.{bytes_eq}
use Rattle.fish_value.specs.Number.{int_of}
use Rattle.fish_value.specs.declared.field.Form.TheVariants.{Json, Csv}
use Rattle.fish_command.specs.Sizes.{fewest_bits, most_bits, most_pages}
use Rattle.fish_command.specs.declared.options.Layout.{Layout}
use Rattle.fish_command.specs.declared.options.Options.{Options}

-- a word of a command line, as its bytes
abbrev pub Word : Type 0
Word = List ℕ

-- one option of a command
pub data Choice : Type 0 where
  Form : Layout → Choice
  Pages : ℕ → Choice
  Bits : ℕ → Choice

-- the layout of a file for which no form is given
abbrev pub json_lines : Layout
json_lines = record { form = Json; header = false }

-- the layouts that `--form` may ask for, by their names
abbrev pub layout_of : Word → Option Layout
layout_of value = if bytes_eq value (codes "json") then Some json_lines else
    (if bytes_eq value (codes "csv") then Some (record { form = Csv; header = false }) else
    (if bytes_eq value (codes "csv-header") then Some (record { form = Csv; header = true }) else None))

-- a whole number from `low` to `high`
abbrev pub within : ℕ → ℕ → Option ℤ → Option ℕ
within low high (Some (pos n)) = if nat_le low n && nat_le n high then Some n else None
within low high _ = None

-- the option of this name with this value: none of another name, and none whose value is off its range
abbrev pub choice_of : Word → Word → Option Choice
choice_of name value = if bytes_eq name (codes "form") then option_map Form (layout_of value) else
    (if bytes_eq name (codes "pages") then option_map Pages (within 1 most_pages (int_of value)) else
    (if bytes_eq name (codes "bits") then option_map Bits (within fewest_bits most_bits (int_of value)) else None))

-- no option
abbrev pub no_options : Options
no_options = record { layout = None; pages = None; bits = None }

-- the options with one more, unless it stands already
abbrev pub with_choice : Options → Choice → Option Options
with_choice o (Form layout) = if is_some o.layout then None else Some (record o { layout = Some layout })
with_choice o (Pages n) = if is_some o.pages then None else Some (record o { pages = Some n })
with_choice o (Bits n) = if is_some o.bits then None else Some (record o { bits = Some n })

-- the options with more, none of which stands twice
abbrev pub with_choices : Options → List Choice → Option Options
with_choices o [] = Some o
with_choices o (c ∷ cs) = option_and_then (λ more. with_choices more cs) (with_choice o c)
