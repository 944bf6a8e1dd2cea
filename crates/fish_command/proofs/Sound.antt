-- What is read is a line with these plain words and these options.
use Rattle.std.proofs.Common.{◌≡◌, ℕ, List, [], ◌∷◌, ◌++◌, Bool, true, false, refl, sym, ap, ◌∙◌, subst, arith}
use Rattle.std.proofs.Common.{append_assoc, drop}
use Rattle.std.proofs.lemmas.Bool.{eqb-true}
use Rattle.std.proofs.lemmas.List.{append-nil}
use Rattle.std.specs.Prelude.{◌==◌, not, Option, Some, None, codes, option_and_then, option_map}
use Rattle.std.specs.Prelude.{if◌then◌else◌}
use Rattle.std.specs.List.{filter_map, flat_map, list_all}
use Rattle.std.specs.Str.Parse.{starts_with_minus}
use Rattle.std.proofs.Common.{suc, take, ◌+◌}
use Rattle.std.specs.List.{position_or_len}
use Rattle.clap.specs.Lexer.{has_byte, long_of, name_and_value}
use Rattle.fish_command.specs.Line.{Part, plain, apart, joined, choice_in, is_options_end, is_word_part, marked, part_words, word_in}
use Rattle.fish_command.specs.Options.{Choice, Word, choice_of, with_choice, with_choices}
use Rattle.fish_command.specs.within.Reading.{Found, Place, at_part, at_value, read, read_option, with_behind}
use Rattle.fish_command.specs.within.Reading.{found_with_word, found_with_words}
use Rattle.fish_command.specs.declared.options.Options.{Options}
use Rattle.fish_command.proofs.Names.{kinds, long_plain, same_word}

-- words are a line, whose plain words and options come after those of f, and are with them those of g
pub record Goes (words : List Word) (f g : Found) : Type 0 where
  pub parts : List Part
  pub behind : List Word
  pub sound : list_all is_word_part parts ≡ true
  pub unmarked : list_all (λ w. not (is_options_end w)) behind ≡ true
  pub spells : words ≡ flat_map part_words parts ++ marked behind
  pub plains : g.plain ≡ f.plain ++ (filter_map word_in parts ++ behind)
  pub once : with_choices f.options (filter_map choice_in parts) ≡ Some g.options

-- ---- one part more

-- a plain word before a line
goes_plain : (w : Word) (words : List Word) (f g : Found) → starts_with_minus w ≡ false
    → Goes words (record f { plain = f.plain ++ w ∷ [] }) g → Goes (w ∷ words) f g
goes_plain w words f g starts h = record {
  parts = plain w ∷ h.parts;
  behind = h.behind;
  sound = rw starts h.sound;
  unmarked = h.unmarked;
  spells = ap (λ (ws : List Word). w ∷ ws) h.spells;
  plains = h.plains ∙ append_assoc f.plain (w ∷ []) (filter_map word_in h.parts ++ h.behind);
  once = h.once;
}

-- an option with its value as the next word before a line
goes_apart : (n v : Word) (words : List Word) (c : Choice) (o : Options) (f g : Found) → choice_of n v ≡ Some c
    → with_choice f.options c ≡ Some o → Goes words (record f { options = o }) g
    → Goes ((codes "--" ++ n) ∷ v ∷ words) f g
goes_apart n v words c o f g is more h = record {
  parts = apart n v ∷ h.parts;
  behind = h.behind;
  sound = rw is h.sound;
  unmarked = h.unmarked;
  spells = ap (λ (ws : List Word). (codes "--" ++ n) ∷ v ∷ ws) h.spells;
  plains = h.plains;
  once = rw (is, more) h.once;
}

-- an option with its value after `=` before a line
goes_joined : (n v : Word) (words : List Word) (c : Choice) (o : Options) (f g : Found) → choice_of n v ≡ Some c
    → with_choice f.options c ≡ Some o → Goes words (record f { options = o }) g
    → Goes ((codes "--" ++ n ++ codes "=" ++ v) ∷ words) f g
goes_joined n v words c o f g is more h = record {
  parts = joined n v ∷ h.parts;
  behind = h.behind;
  sound = rw is h.sound;
  unmarked = h.unmarked;
  spells = ap (λ (ws : List Word). (codes "--" ++ n ++ codes "=" ++ v) ∷ ws) h.spells;
  plains = h.plains;
  once = rw (is, more) h.once;
}

-- ---- what was read of one part

-- an option that was read is one, and the words after it are read with it
options_read : (f g : Found) (next : Found → Option Found) (n v : Word) (c : Choice) (r : Option Options) {P : Type 0}
    → choice_of n v ≡ Some c → with_choice f.options c ≡ r
    → option_and_then next (option_map (λ o. record f { options = o }) r) ≡ Some g
    → ((c : Choice) (o : Options) → choice_of n v ≡ Some c → with_choice f.options c ≡ Some o
    → next (record f { options = o }) ≡ Some g → P) → P
options_read f g next n v c None is more e behind = absurd cc
options_read f g next n v c (Some o) is more e behind = behind c o is more e

-- the same, whatever its name and its value are
choice_read : (f g : Found) (next : Found → Option Found) (n v : Word) (r : Option Choice) {P : Type 0}
    → choice_of n v ≡ r
    → option_and_then next (option_map (λ o. record f { options = o }) (option_and_then (with_choice f.options) r))
    ≡ Some g
    → ((c : Choice) (o : Options) → choice_of n v ≡ Some c → with_choice f.options c ≡ Some o
    → next (record f { options = o }) ≡ Some g → P) → P
choice_read f g next n v None is e behind = absurd cc
choice_read f g next n v (Some c) is e behind =
    options_read f g next n v c (with_choice f.options c) is refl e behind

-- words after `--` that were read
record GoesBehind (words : List Word) (f g : Found) : Type 0 where
  unmarked : list_all (λ w. not (is_options_end w)) words ≡ true
  are : g ≡ record f { plain = f.plain ++ words }

-- one word more after `--`
words_go_by : (mark : Bool) (w : Word) (more : List Word) (f g : Found) → is_options_end w ≡ mark
    → (if mark then None else found_with_words more (found_with_word w f)) ≡ Some g
    → ((h : Found) → found_with_words more h ≡ Some g → GoesBehind more h g) → GoesBehind (w ∷ more) f g
words_go_by true w more f g is e behind = absurd cc
words_go_by false w more f g is e behind =
    let rest = behind (found_with_word w f) e in
    record {
      unmarked = rw is rest.unmarked;
      are = rest.are ∙ ap (λ (words : List Word). record f { plain = words }) (append_assoc f.plain (w ∷ []) more);
    }

-- words after `--` are plain words
words_go : (words : List Word) (f g : Found) → found_with_words words f ≡ Some g → GoesBehind words f g
words_go [] f g e =
    let same : f ≡ g = cc in
    record {
      unmarked = refl;
      are = sym same ∙ ap (λ (words : List Word). record f { plain = words }) (sym (append-nil f.plain));
    }
words_go (w ∷ more) f g e = words_go_by (is_options_end w) w more f g refl e (λ h. words_go more h g)

-- `--` and what is read after it are a line
end_goes : (words : List Word) (f g : Found) → with_behind words f ≡ Some g → Goes (codes "--" ∷ words) f g
end_goes [] f g e = absurd cc
end_goes (w ∷ more) f g e =
    let rest = words_go (w ∷ more) f g e in
    record {
      parts = [];
      behind = w ∷ more;
      sound = refl;
      unmarked = rest.unmarked;
      spells = refl;
      plains = ap (λ (h : Found). h.plain) rest.are;
      once = ap (λ (h : Found). Some h.options) (sym rest.are);
    }

-- ---- the words of an option

-- a name, and the value after a `=` where there is one
abbrev joined_text : Word × Option Word → Word
joined_text (n, None) = n
joined_text (n, Some v) = n ++ codes "=" ++ v

-- one byte more before what is joined
joined_more : (c : ℕ) (name rest : Word) (has : Bool)
    → joined_text (c ∷ name, (if has then Some rest else None)) ≡ c ∷ joined_text (name, (if has then Some rest else None))
joined_more c name rest true = refl
joined_more c name rest false = refl

-- what is cut at its first `=` is its parts, joined again
cut_text_by : (c : ℕ) (x : Word) (b : Bool) → (c == 61) ≡ b → joined_text (name_and_value x) ≡ x
    → joined_text (name_and_value (c ∷ x)) ≡ c ∷ x
cut_text_by c x true is behind = rw is (ap (λ (n : ℕ). n ∷ x) (sym (eqb-true c 61 is)))
cut_text_by c x false is behind =
    let at : ℕ = position_or_len (λ b. b == 61) x in
    let next : position_or_len (λ b. b == 61) (c ∷ x) ≡ suc at = rw is (omega arith) in
    let far : suc at + 1 ≡ suc (at + 1) = omega arith in
    let has : has_byte 61 (c ∷ x) ≡ has_byte 61 x = rw is refl in
    (λ i. joined_text (take (next i) (c ∷ x), (if has i then Some (drop (next i + 1) (c ∷ x)) else None)))
    ∙ (λ i. joined_text (c ∷ take at x, (if has_byte 61 x then Some (drop (far i) (c ∷ x)) else None)))
    ∙ joined_more c (take at x) (drop (at + 1) x) (has_byte 61 x) ∙ ap (λ (y : Word). c ∷ y) behind

cut_text : (x : Word) → joined_text (name_and_value x) ≡ x
cut_text [] = refl
cut_text (c ∷ x) = cut_text_by c x (c == 61) refl (cut_text x)

-- a word that is read as an option is its name and its value
option_text : (w : Word) (o : Word × Option Word) → long_of w ≡ Some o → w ≡ codes "--" ++ joined_text o
option_text w o = kinds (λ y. long_of y ≡ Some o → y ≡ codes "--" ++ joined_text o)
    (λ y plain e. let none = long_plain y plain in absurd cc)
    (λ y minus one unmarked short e. absurd cc)
    (λ e. absurd cc)
    (λ c rest e.
    let same : name_and_value (c ∷ rest) ≡ o = cc in
    ap (λ (x : Word). codes "--" ++ x) (sym (cut_text (c ∷ rest)) ∙ ap joined_text same)) w

-- ---- all parts

-- the words from a place on, and what was found before it
abbrev words_at : Place → List Word → List Word
words_at (at_part f) words = words
words_at (at_value n f) words = (codes "--" ++ n) ∷ words

-- what was found before a place
abbrev found_at : Place → Found
found_at (at_part f) = f
found_at (at_value n f) = f

-- the words of a line by its first word
goes_from : (w x : Word) (words : List Word) (f g : Found) → w ≡ x → Goes (x ∷ words) f g → Goes (w ∷ words) f g
goes_from w x words f g is h = subst (λ (y : Word). Goes (y ∷ words) f g) (sym is) h

-- one part and the words after it, by what its first word is
part_goes : (mark minus : Bool) (o : Option (Word × Option Word)) (w : Word) (words : List Word) (f g : Found)
    → is_options_end w ≡ mark → starts_with_minus w ≡ minus → long_of w ≡ o
    → (if mark then with_behind words f else (if minus then read_option o f (read words)
    else read words (at_part (found_with_word w f)))) ≡ Some g
    → ((p : Place) → read words p ≡ Some g → Goes (words_at p words) (found_at p) g) → Goes (w ∷ words) f g
part_goes true minus o w words f g is starts reads e behind =
    goes_from w (codes "--") words f g (same_word w (codes "--") is) (end_goes words f g e)
part_goes false false o w words f g is starts reads e behind =
    goes_plain w words f g starts (behind (at_part (found_with_word w f)) e)
part_goes false true None w words f g is starts reads e behind = absurd cc
part_goes false true (Some (n, None)) w words f g is starts reads e behind =
    goes_from w (codes "--" ++ n) words f g (option_text w (n, None) reads) (behind (at_value n f) e)
part_goes false true (Some (n, Some v)) w words f g is starts reads e behind =
    goes_from w (codes "--" ++ n ++ codes "=" ++ v) words f g
    (option_text w (n, Some v) reads ∙ sym (append_assoc (codes "--") (n ++ codes "=") v))
    (choice_read f g (λ h. read words (at_part h)) n v (choice_of n v) refl e
    (λ c o is more rest. goes_joined n v words c o f g is more (behind (at_part (record f { options = o })) rest)))

-- words that are read are a line with what was found
pub read_goes : (words : List Word) (p : Place) (g : Found) → read words p ≡ Some g
    → Goes (words_at p words) (found_at p) g
read_goes [] (at_part f) g e =
    let same : f ≡ g = cc in
    record {
      parts = [];
      behind = [];
      sound = refl;
      unmarked = refl;
      spells = refl;
      plains = ap (λ (h : Found). h.plain) (sym same) ∙ sym (append-nil f.plain);
      once = ap (λ (h : Found). Some h.options) same;
    }
read_goes [] (at_value n f) g e = absurd cc
read_goes (w ∷ words) (at_value n f) g e =
    choice_read f g (λ h. read words (at_part h)) n w (choice_of n w) refl e
    (λ c o is more rest. goes_apart n w words c o f g is more
    (read_goes words (at_part (record f { options = o })) g rest))
read_goes (w ∷ words) (at_part f) g e =
    part_goes (is_options_end w) (starts_with_minus w) (long_of w) w words f g refl refl refl e
    (λ p. read_goes words p g)
