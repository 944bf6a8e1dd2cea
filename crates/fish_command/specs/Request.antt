-- The grammar of commands: which words are a command, before its definition and its value are read.
use Rattle.std.specs.Prelude.{◌≡◌, ℕ, List, [], ◌∷◌, false, codes, unwrap_or, Option, None, Some}
use Rattle.std.specs.Str.Parse.{starts_with_minus}
use Rattle.fish_command.specs.Line.{IsLine}
use Rattle.fish_value.specs.Number.{int_of}
use Rattle.fish_command.specs.Options.{Word, json_lines, within}
use Rattle.fish_command.specs.Sizes.{most_sample_records}
use Rattle.fish_command.specs.declared.options.Layout.{Layout}
use Rattle.fish_command.specs.declared.options.Options.{Options}

-- the words that a command was given for its parts
pub data Request : Type 0 where
  select : (def value file : Word) (layout : Layout) → Request
  run : (store script : Word) (pages bits : Option ℕ) → Request
  sample : (number : ℕ) → Request

-- words are `select`, and after it DEF VALUE FILE with at most a form
pub record IsSelect (words : List Word) (def value file : Word) (layout : Layout) : Type 0 where
  pub behind : List Word
  pub options : Options
  pub spells : words ≡ codes "select" ∷ behind
  pub line : IsLine behind (def ∷ value ∷ file ∷ []) options
  pub layout_is : layout ≡ unwrap_or options.layout json_lines
  pub no_pages : options.pages ≡ None
  pub no_bits : options.bits ≡ None

-- words are `run` and STORE, and after them SCRIPT with at most a number of pages and one of bits
pub record IsRun (words : List Word) (store script : Word) (pages bits : Option ℕ) : Type 0 where
  pub behind : List Word
  pub options : Options
  pub spells : words ≡ codes "run" ∷ store ∷ behind
  pub plain : starts_with_minus store ≡ false
  pub line : IsLine behind (script ∷ []) options
  pub pages_are : pages ≡ options.pages
  pub bits_are : bits ≡ options.bits
  pub no_layout : options.layout ≡ None

-- words are `sample`, and after it a whole number from 0 to 60,000, without an option
pub record IsSampleRequest (words : List Word) (number : ℕ) : Type 0 where
  pub behind : List Word
  pub options : Options
  pub word : Word
  pub spells : words ≡ codes "sample" ∷ behind
  pub line : IsLine behind (word ∷ []) options
  pub number_is : within 0 most_sample_records (int_of word) ≡ Some number
  pub no_layout : options.layout ≡ None
  pub no_pages : options.pages ≡ None
  pub no_bits : options.bits ≡ None

-- words are a command with these parts
abbrev pub IsRequest : List Word → Request → Type 0
IsRequest words (select def value file layout) = IsSelect words def value file layout
IsRequest words (run store script pages bits) = IsRun words store script pages bits
IsRequest words (sample number) = IsSampleRequest words number
