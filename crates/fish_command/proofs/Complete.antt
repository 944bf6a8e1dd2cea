-- A line is read as the plain words and the options that it has.
use Rattle.std.proofs.Common.{◌≡◌, List, [], ◌∷◌, ◌++◌, Bool, true, false, refl, sym, ap, ◌∙◌}
use Rattle.std.proofs.Common.{append_assoc}
use Rattle.std.proofs.lemmas.List.{append-nil}
use Rattle.std.specs.Prelude.{◌&&◌, not, Option, Some, None, is_some, option_and_then, option_map}
use Rattle.std.specs.List.{cons_option, filter_map, flat_map, list_all}
use Rattle.std.specs.Str.Parse.{starts_with_minus}
use Rattle.fish_command.specs.Line.{Part, plain, apart, joined, choice_in, is_options_end, is_word_part, marked, part_words, word_in}
use Rattle.fish_command.specs.Options.{Choice, Word, choice_of, with_choice, with_choices}
use Rattle.fish_command.specs.within.Reading.{Found, at_part, read, found_with_word, found_with_words}
use Rattle.fish_command.specs.declared.options.Options.{Options}
use Rattle.fish_command.proofs.Names.{option_begins, plain_unmarked}

-- both of two tests
pub left_of : (a b : Bool) → (a && b) ≡ true → a ≡ true
left_of true b h = refl
left_of false b h = h

-- the other of two tests
pub right_of : (a b : Bool) → (a && b) ≡ true → b ≡ true
right_of true b h = h
right_of false b h = cc

-- a test whose contrary holds is false
pub not_true : (a : Bool) → not a ≡ true → a ≡ false
not_true true h = sym h
not_true false h = refl

-- words after `--` are read as plain words
words_read : (words : List Word) (f : Found) → list_all (λ w. not (is_options_end w)) words ≡ true
    → found_with_words words f ≡ Some (record f { plain = f.plain ++ words })
words_read [] f unmarked = rw append-nil
words_read (w ∷ more) f unmarked =
    let here : is_options_end w ≡ false = not_true _ (left_of _ _ unmarked) in
    rw here (words_read more (found_with_word w f) (right_of _ _ unmarked)
    ∙ ap (λ (words : List Word). Some (record f { plain = words })) (append_assoc f.plain (w ∷ []) more))

-- a line's end
end_read : (behind : List Word) (f : Found) → list_all (λ w. not (is_options_end w)) behind ≡ true
    → read (marked behind) (at_part f) ≡ Some (record f { plain = f.plain ++ behind })
end_read [] f unmarked = rw append-nil
end_read (w ∷ more) f unmarked = words_read (w ∷ more) f unmarked

-- the next options, where the first is known
options_next : (r : Option Options) (f : Found) (cs : List Choice) (options : Options) (next : Found → Option Found)
    (due : Option Found) → option_and_then (λ o. with_choices o cs) r ≡ Some options
    → ((g : Found) → g.plain ≡ f.plain → with_choices g.options cs ≡ Some options → next g ≡ due)
    → option_and_then next (option_map (λ o. record f { options = o }) r) ≡ due
options_next None f cs options next due h behind = cc
options_next (Some o) f cs options next due h behind = behind (record f { options = o }) refl h

-- the next option, where it is known
option_next : (c : Option Choice) (f : Found) (cs : List Choice) (options : Options) (next : Found → Option Found)
    (due : Option Found) → is_some c ≡ true → with_choices f.options (cons_option c cs) ≡ Some options
    → ((g : Found) → g.plain ≡ f.plain → with_choices g.options cs ≡ Some options → next g ≡ due)
    → option_and_then next (option_map (λ o. record f { options = o })
    (option_and_then (with_choice f.options) c)) ≡ due
option_next None f cs options next due is h behind = cc
option_next (Some c) f cs options next due is h behind =
    options_next (with_choice f.options c) f cs options next due h behind

-- a line is read as its plain words and its options, after those that were found before
pub line_read : (parts : List Part) (behind : List Word) (f : Found) (options : Options)
    → list_all is_word_part parts ≡ true → list_all (λ w. not (is_options_end w)) behind ≡ true
    → with_choices f.options (filter_map choice_in parts) ≡ Some options
    → read (flat_map part_words parts ++ marked behind) (at_part f)
    ≡ Some (record { plain = f.plain ++ (filter_map word_in parts ++ behind); options = options })
line_read [] behind f options sound unmarked once =
    end_read behind f unmarked
    ∙ ap (λ (o : Option Options). option_map (λ p. record { plain = f.plain ++ behind; options = p }) o) once
line_read (plain w ∷ parts) behind f options sound unmarked once =
    let starts : starts_with_minus w ≡ false = not_true _ (left_of _ _ sound) in
    let here : is_options_end w ≡ false = plain_unmarked w (is_options_end w) refl starts in
    rw (here, starts)
    (line_read parts behind (found_with_word w f) options (right_of _ _ sound) unmarked once
    ∙ ap (λ (ws : List Word). Some (record { plain = ws; options = options }))
    (append_assoc f.plain (w ∷ []) (filter_map word_in parts ++ behind)))
line_read (apart n v ∷ parts) behind f options sound unmarked once =
    let begins = option_begins n v (left_of _ _ sound) in
    rw (begins.apart_unmarked, begins.apart)
    (option_next (choice_of n v) f (filter_map choice_in parts) options
    (λ g. read (flat_map part_words parts ++ marked behind) (at_part g)) _ (left_of _ _ sound) once
    (λ g same more. line_read parts behind g options (right_of _ _ sound) unmarked more
    ∙ ap (λ (ws : List Word). Some (record {
      plain = ws ++ (filter_map word_in parts ++ behind);
      options = options;
    })) same))
line_read (joined n v ∷ parts) behind f options sound unmarked once =
    let begins = option_begins n v (left_of _ _ sound) in
    rw (begins.joined_unmarked v, begins.joined v)
    (option_next (choice_of n v) f (filter_map choice_in parts) options
    (λ g. read (flat_map part_words parts ++ marked behind) (at_part g)) _ (left_of _ _ sound) once
    (λ g same more. line_read parts behind g options (right_of _ _ sound) unmarked more
    ∙ ap (λ (ws : List Word). Some (record {
      plain = ws ++ (filter_map word_in parts ++ behind);
      options = options;
    })) same))
