-- How words are read, one after the other. `Request` says what it means; these words are for the clauses of
-- private functions.
use Rattle.std.specs.Prelude.{List, [], ◌∷◌, ◌++◌, ◌==◌, ◌&&◌, ◌||◌, Bool, true, false, not, codes, Option, Some, None}
use Rattle.std.specs.Prelude.{is_some, option_and_then, option_map, unwrap_or, if◌then◌else◌}
use Rattle.std.specs.List.{list_all}
use Rattle.std.specs.Str.{bytes_eq}
use Rattle.std.specs.Str.Parse.{starts_with_minus}
use Rattle.clap.specs.Lexer.{long_of}
use Rattle.fish_value.specs.Number.{int_of}
use Rattle.fish_command.specs.Line.{is_options_end}
use Rattle.fish_command.specs.Options.{Word, choice_of, json_lines, no_options, with_choice, within}
use Rattle.fish_command.specs.Request.{Request, run, sample, select}
use Rattle.fish_command.specs.Sizes.{most_sample_records}
use Rattle.fish_command.specs.declared.options.Options.{Options}

-- the plain words and the options so far
pub record Found : Type 0 where
  pub plain : List Word
  pub options : Options

-- no word so far
abbrev pub nothing_found : Found
nothing_found = record { plain = []; options = no_options }

-- a plain word more
abbrev pub found_with_word : Word → Found → Found
found_with_word word f = record f { plain = f.plain ++ word ∷ [] }

-- an option more
abbrev pub with_option : Word → Word → Found → Option Found
with_option name value f =
    option_map (λ o. record f { options = o }) (option_and_then (with_choice f.options) (choice_of name value))

-- plain words after `--`
abbrev pub found_with_words : List Word → Found → Option Found
found_with_words [] f = Some f
found_with_words (word ∷ more) f = if is_options_end word then None else found_with_words more (found_with_word word f)

-- what follows `--`: at least a plain word
abbrev pub with_behind : List Word → Found → Option Found
with_behind [] f = None
with_behind (word ∷ more) f = found_with_words (word ∷ more) f

-- where the reading stands: at a part, or at the value of an option
pub data Place : Type 0 where
  at_part : Found → Place
  at_value : Word → Found → Place

-- an option, and how the words after it are read
abbrev pub read_option : Option (Word × Option Word) → Found → (Place → Option Found) → Option Found
read_option None f next = None
read_option (Some (name, None)) f next = next (at_value name f)
read_option (Some (name, Some v)) f next = option_and_then (λ g. next (at_part g)) (with_option name v f)

-- a part, with the words after it and how they are read
abbrev pub read_part : Word → List Word → Found → (Place → Option Found) → Option Found
read_part word more f next = if is_options_end word then with_behind more f else
    (if starts_with_minus word then read_option (long_of word) f next
    else next (at_part (found_with_word word f)))

-- the plain words and the options of a line
abbrev pub read : List Word → Place → Option Found
read [] (at_part f) = Some f
read [] (at_value name f) = None
read (word ∷ more) (at_part f) = read_part word more f (read more)
read (word ∷ more) (at_value name f) = option_and_then (λ g. read more (at_part g)) (with_option name word f)

-- a line as the parts of `select`
abbrev pub select_of : List Word → Options → Option Request
select_of (def ∷ value ∷ file ∷ []) o = if is_some o.pages || is_some o.bits then None else
    Some (select def value file (unwrap_or o.layout json_lines))
select_of _ o = None

-- a line as the parts of `run`, after the store
abbrev pub run_of : Word → List Word → Options → Option Request
run_of store (script ∷ []) o = if is_some o.layout then None else Some (run store script o.pages o.bits)
run_of store _ o = None

-- a line as the parts of `sample`
abbrev pub sample_of : List Word → Options → Option Request
sample_of (word ∷ []) o = if is_some o.layout || (is_some o.pages || is_some o.bits) then None else
    option_map sample (within 0 most_sample_records (int_of word))
sample_of _ o = None

-- the words after `select`
abbrev pub select_in : List Word → Option Request
select_in behind = option_and_then (λ f. select_of f.plain f.options) (read behind (at_part nothing_found))

-- the words after `run`
abbrev pub run_in : List Word → Option Request
run_in [] = None
run_in (store ∷ behind) = if starts_with_minus store then None else
    option_and_then (λ f. run_of store f.plain f.options) (read behind (at_part nothing_found))

-- the words after `sample`
abbrev pub sample_in : List Word → Option Request
sample_in behind = option_and_then (λ f. sample_of f.plain f.options) (read behind (at_part nothing_found))

-- the parts of a command
abbrev pub request_of : List Word → Option Request
request_of [] = None
request_of (verb ∷ behind) = if bytes_eq verb (codes "select") then select_in behind else
    (if bytes_eq verb (codes "run") then run_in behind else
    (if bytes_eq verb (codes "sample") then sample_in behind else None))

-- the word begins with one `-` and no second
abbrev pub has_one_minus : Word → Bool
has_one_minus [] = false
has_one_minus (a ∷ []) = a == 45
has_one_minus (a ∷ b ∷ rest) = a == 45 && not (b == 45)

-- words may be after `--`: there are some, and none is `--`
abbrev pub are_placed_after : List Word → Bool
are_placed_after [] = false
are_placed_after (word ∷ more) = list_all (λ w. not (is_options_end w)) (word ∷ more)

-- each word that begins with `-` may be where it is, whatever the options are
abbrev pub are_placed : List Word → Bool
are_placed [] = true
are_placed (word ∷ more) =
    if is_options_end word then are_placed_after more else (not (has_one_minus word) && are_placed more)
