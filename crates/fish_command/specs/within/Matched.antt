-- The command of `clap` that a line is read by, and what its matches say.
use Rattle.std.specs.Prelude.{ℕ, List, [], ◌∷◌, codes, Option, Some, None, option_and_then, option_map, true, unwrap_or}
use Rattle.fish_value.specs.Number.{int_of}
use Rattle.clap.specs.Words.{App, Row, Rule, all_of, new_app, new_rule, with_rule}
use Rattle.clap.specs.declared.builder.action.ArgAction.TheVariants.{Append}
use Rattle.fish_command.specs.Options.{Word, layout_of, within}
use Rattle.fish_command.specs.within.Reading.{Found}
use Rattle.fish_command.specs.Sizes.{fewest_bits, most_bits, most_pages}
use Rattle.fish_command.specs.declared.options.Layout.{Layout}
use Rattle.fish_command.specs.declared.options.Options.{Options}

-- plain words
abbrev pub plain_rule : Rule
plain_rule = record (new_rule (codes "words")) { action = Some Append }

-- an option
abbrev pub option_rule : Word → Rule
option_rule name = record (new_rule name) { long = Some name; action = Some Append }

-- a line with nothing in it, that has no name in front and no option of clap's own
abbrev pub bare_app : App
bare_app = record (new_app (codes "line")) {
  top = record (new_app (codes "line")).top { no_binary_name = true; disable_help_flag = true };
}

-- a line
abbrev pub line_app : App
line_app = with_rule (with_rule (with_rule (with_rule bare_app plain_rule) (option_rule (codes "form")))
    (option_rule (codes "pages"))) (option_rule (codes "bits"))

-- the values of an argument
abbrev pub values_for_id : Word → List Row → List Word
values_for_id id rows = unwrap_or (all_of id rows) []

-- at most one value
abbrev pub at_most_one : List Word → Option (Option Word)
at_most_one [] = Some None
at_most_one (v ∷ []) = Some (Some v)
at_most_one (v ∷ w ∷ more) = None

-- what a value stands for, where there is one
abbrev pub optional : {A : Type 0} → (Word → Option A) → Option Word → Option (Option A)
optional g None = Some None
optional g (Some v) = option_map Some (g v)

-- what at most one value stands for
abbrev pub one : {A : Type 0} → (Word → Option A) → List Word → Option (Option A)
one g vs = option_and_then (optional g) (at_most_one vs)

-- the number of pages of a value
abbrev pub pages_in_word : Word → Option ℕ
pages_in_word value = within 1 most_pages (int_of value)

-- the number of bits of a value
abbrev pub bits_of : Word → Option ℕ
bits_of value = within fewest_bits most_bits (int_of value)

-- options, where each is one
abbrev pub options_of : Option (Option Layout) → Option (Option ℕ) → Option (Option ℕ) → Option Options
options_of (Some layout) (Some pages) (Some bits) = Some (record { layout = layout; pages = pages; bits = bits })
options_of _ _ _ = None

-- the options among the matches of a line
abbrev pub options_in : List Row → Option Options
options_in rows = options_of (one layout_of (values_for_id (codes "form") rows))
    (one pages_in_word (values_for_id (codes "pages") rows))
    (one bits_of (values_for_id (codes "bits") rows))

-- the plain words and the options among the matches of a line
abbrev pub found_in : List Row → Option Found
found_in rows = option_map (λ o. record { plain = values_for_id (codes "words") rows; options = o }) (options_in rows)
