-- What may come after the first words of a command: plain words and options, in any order.
use Rattle.std.specs.Prelude.{◌≡◌, List, [], ◌∷◌, ◌++◌, Bool, not, IsTrue, codes, Option, Some, None, is_some}
use Rattle.std.specs.List.{filter_map, flat_map, list_all}
use Rattle.std.specs.Str.{bytes_eq}
use Rattle.std.specs.Str.Parse.{starts_with_minus}
use Rattle.fish_command.specs.Options.{Choice, Word, choice_of, no_options, with_choices}
use Rattle.fish_command.specs.declared.options.Options.{Options}

-- a plain word, or an option by its name, with its value as the next word or after `=` in the same one
pub data Part : Type 0 where
  plain : (word : Word) → Part
  apart : (name value : Word) → Part
  joined : (name value : Word) → Part

-- the words that a part is
abbrev pub part_words : Part → List Word
part_words (plain word) = word ∷ []
part_words (apart name value) = (codes "--" ++ name) ∷ value ∷ []
part_words (joined name value) = (codes "--" ++ name ++ codes "=" ++ value) ∷ []

-- a plain word begins with no `-`, and an option is one, with a value that it takes
abbrev pub is_word_part : Part → Bool
is_word_part (plain word) = not (starts_with_minus word)
is_word_part (apart name value) = is_some (choice_of name value)
is_word_part (joined name value) = is_some (choice_of name value)

-- the plain word that a part is
abbrev pub word_in : Part → Option Word
word_in (plain word) = Some word
word_in (apart name value) = None
word_in (joined name value) = None

-- the option that a part is
abbrev pub choice_in : Part → Option Choice
choice_in (plain word) = None
choice_in (apart name value) = choice_of name value
choice_in (joined name value) = choice_of name value

-- the word is `--`
abbrev pub is_options_end : Word → Bool
is_options_end word = bytes_eq word (codes "--")

-- plain words after `--`, which stands where there are some
abbrev pub marked : List Word → List Word
marked [] = []
marked (word ∷ more) = codes "--" ∷ word ∷ more

-- words are parts, and then perhaps `--` with plain words; in all, they have these plain words and these options
pub record IsLine (words plain : List Word) (options : Options) : Type 0 where
  pub parts : List Part
  pub behind : List Word
  -- each part may stand there
  pub sound : IsTrue (list_all is_word_part parts)
  -- `--` stands once at most
  pub unmarked : IsTrue (list_all (λ word. not (is_options_end word)) behind)
  pub spells : words ≡ flat_map part_words parts ++ marked behind
  pub plains : plain ≡ filter_map word_in parts ++ behind
  -- no option stands twice
  pub once : with_choices no_options (filter_map choice_in parts) ≡ Some options
