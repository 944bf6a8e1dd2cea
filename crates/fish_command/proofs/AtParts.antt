-- What `clap` finds from a part on is what is read: words after `--`, plain words, options.
use Rattle.std.proofs.Common.{◌≡◌, List, [], ◌∷◌, Bool, true, false, refl, sym, ap, ◌∙◌, inl, inr}
use Rattle.std.specs.Prelude.{if◌then◌else◌, ◌&&◌, ◌==◌, ◌⊎◌, not, Option, Some, None, codes, option_and_then}
use Rattle.std.specs.Prelude.{option_map}
use Rattle.std.specs.List.{list_all}
use Rattle.std.specs.Str.Parse.{starts_with_minus}
use Rattle.std.proofs.Math.Bool.{and-false}
use Rattle.clap.specs.Lexer.{long_of, short_of}
use Rattle.clap.specs.Walk.{Held, is_pending, reacted, settled, walked}
use Rattle.clap.specs.Faults.{settle_fault, turn_fault}
use Rattle.fish_command.specs.Line.{is_options_end}
use Rattle.fish_command.specs.Options.{Word}
use Rattle.fish_command.specs.within.Reading.{Found, are_placed, at_part, at_value, has_one_minus, read, read_option}
use Rattle.fish_command.specs.within.Reading.{with_option, found_with_word, found_with_words}
use Rattle.fish_command.proofs.Names.{long_plain, plain_unmarked}
use Rattle.clap.specs.declared.error.kind.ErrorKind.TheVariants as kind
use Rattle.fish_command.proofs.Arguments.{shape, rules, plain_built, option_built, IsOption, IsUnknown}
use Rattle.fish_command.proofs.Walks.{unless, judged, judged_next, judged_end, Stands, at, behind, wanted}
use Rattle.fish_command.proofs.Walks.{with_plain, plain_stands, Reads, Spots, turn_to, turn_fails, either_none}

-- ---- words after `--`

-- a word after `--` is no fault
trailing_turn : (b : Bool) (x : Word) (h : Held) → settle_fault rules false h ≡ []
    → turn_fault shape [] (behind b h) x ≡ []
trailing_turn b x h settles = rw (and-false (is_pending plain_built h.pending)) settles

-- it is one plain word more
trailing_walked : (b : Bool) (x : Word) (h : Held) → walked rules [] (behind b h) x ≡ behind true (with_plain x h)
unfolding walked
trailing_walked b x h = rw (and-false (is_pending plain_built h.pending)) refl

-- what was found, and nothing else
pub some_found : (r : Option Found) → option_and_then (λ f. Some f) r ≡ r
some_found None = refl
some_found (Some f) = refl

-- nothing, whatever was found
pub none_found : (r : Option Found) → ◌≡◌ {A = Option Found} (option_and_then (λ f. None) r) None
none_found None = refl
none_found (Some f) = refl

-- a plain word, and then the others
word_then : {X : Type 0} (w : Word) (next : Found → Option X) (r : Option Found)
    → option_and_then next (option_map (found_with_word w) r) ≡ option_and_then (λ f. next (found_with_word w f)) r
word_then w next None = refl
word_then w next (Some f) = refl

-- a second `--` is not read
words_none : (x : Word) (xs : List Word) (r : Option Found) → is_options_end x ≡ true → option_and_then (found_with_words (x ∷ xs)) r ≡ None
words_none x xs None is = refl
words_none x xs (Some f) is = rw is refl

-- another word is
words_next : (x : Word) (xs : List Word) (r : Option Found) → is_options_end x ≡ false
    → option_and_then (λ f. found_with_words xs (found_with_word x f)) r ≡ option_and_then (found_with_words (x ∷ xs)) r
words_next x xs None is = refl
words_next x xs (Some f) is = rw is refl

-- words after `--` by whether the first is a second one
behind_by : (b : Bool) (x : Word) (xs : List Word) (h : Held) (r : Option Found) (mark : Bool) → is_options_end x ≡ mark → Stands h r
    → ((if list_all (λ w. not (is_options_end w)) xs then judged xs (behind true (with_plain x h)) else None)
    ≡ option_and_then (found_with_words xs) (option_map (found_with_word x) r))
    → (if list_all (λ w. not (is_options_end w)) (x ∷ xs) then judged (x ∷ xs) (behind b h) else None)
    ≡ option_and_then (found_with_words (x ∷ xs)) r
behind_by b x xs h r true is s next = rw is (sym (words_none x xs r is))
behind_by b x xs h r false is s next =
    let turn : judged (x ∷ xs) (behind b h) ≡ judged xs (behind true (with_plain x h)) =
    judged_next x xs (behind b h)
    ∙ (λ i. unless (trailing_turn b x h s.settles i) (judged xs (trailing_walked b x h i))) in
    rw (is, turn) (next ∙ word_then x (found_with_words xs) r ∙ words_next x xs r is)

-- `clap` finds after `--` what is read there
behind_read : (words : List Word) (b : Bool) (h : Held) (r : Option Found) → Stands h r
    → (if list_all (λ w. not (is_options_end w)) words then judged words (behind b h) else None)
    ≡ option_and_then (found_with_words words) r
behind_read [] b h r s = judged_end (behind b h) ∙ (λ i. unless (s.settles i) (s.found i)) ∙ sym (some_found r)
behind_read (x ∷ xs) b h r s =
    behind_by b x xs h r (is_options_end x) refl s
    (behind_read xs true (with_plain x h) (option_map (found_with_word x) r) (plain_stands x h r s))

-- ---- plain words

-- a plain word has no minus, neither one
pub one_plain : (x : Word) → starts_with_minus x ≡ false → has_one_minus x ≡ false
one_plain [] plain = refl
one_plain (a ∷ []) plain = plain
one_plain (a ∷ b ∷ more) plain = ap (λ (t : Bool). t && not (b == 45)) plain

-- nor is it a bundle of short options
pub short_plain : (x : Word) → starts_with_minus x ≡ false → short_of x ≡ None
short_plain [] plain = refl
short_plain (a ∷ more) plain = rw plain refl

-- a plain word at a part
module _ (x : Word) (h : Held) (plain : starts_with_minus x ≡ false) where
  -- it is no fault
  plain_turn : (b : Bool) → settle_fault rules false h ≡ [] → turn_fault shape [] (at b h) x ≡ []
  plain_turn true settles =
      rw (
        plain_unmarked x (is_options_end x) refl plain,
        long_plain x plain,
        short_plain x plain,
        and-false (is_pending plain_built h.pending),
      ) settles
  plain_turn false settles =
      rw (
        plain_unmarked x (is_options_end x) refl plain,
        long_plain x plain,
        short_plain x plain,
        and-false (is_pending plain_built h.pending),
      ) settles

  -- it is one plain word more
  plain_walked : (b : Bool) → walked rules [] (at b h) x ≡ at true (with_plain x h)
  unfolding walked
  plain_walked true =
      rw (
        plain_unmarked x (is_options_end x) refl plain,
        long_plain x plain,
        short_plain x plain,
        and-false (is_pending plain_built h.pending),
      ) refl
  plain_walked false =
      rw (
        plain_unmarked x (is_options_end x) refl plain,
        long_plain x plain,
        short_plain x plain,
        and-false (is_pending plain_built h.pending),
      ) refl

-- so what `clap` finds is what is read
pub plain_reads : (b : Bool) (h : Held) (r : Option Found) (x : Word) (xs : List Word) → Spots xs → Stands h r
    → starts_with_minus x ≡ false → Reads (x ∷ xs) (at b h) r at_part
plain_reads b h r x xs behind s plain =
    rw (
      plain_unmarked x (is_options_end x) refl plain,
      one_plain x plain,
      plain,
      turn_to x xs (at b h) (at true (with_plain x h)) (plain_turn x h plain b s.settles) (plain_walked x h plain b),
    )
    (behind.at_parts true (with_plain x h) (option_map (found_with_word x) r) (plain_stands x h r s)
    ∙ word_then x (λ f. read xs (at_part f)) r)

-- a word with one minus is not read, and not placed
pub single_reads : (b : Bool) (h : Held) (r : Option Found) (x : Word) (xs : List Word)
    → starts_with_minus x ≡ true → has_one_minus x ≡ true → is_options_end x ≡ false → long_of x ≡ None
    → Reads (x ∷ xs) (at b h) r at_part
single_reads b h r x xs minus one unmarked short = rw (unmarked, one, minus, short) (sym (none_found r))

-- `--` is no fault
mark_turn : (b : Bool) (h : Held) → turn_fault shape [] (at b h) (codes "--") ≡ []
mark_turn true h = refl
mark_turn false h = refl

-- the words after it are plain
mark_walked : (b : Bool) (h : Held) → walked rules [] (at b h) (codes "--") ≡ behind b h
unfolding walked
mark_walked true h = refl
mark_walked false h = refl

-- so they are read as `clap` finds them
pub mark_reads : (b : Bool) (h : Held) (r : Option Found) (xs : List Word) → Stands h r → Reads (codes "--" ∷ xs) (at b h) r at_part
mark_reads b h r [] s = sym (none_found r)
mark_reads b h r (y ∷ ys) s =
    rw (turn_to (codes "--") (y ∷ ys) (at b h) (behind b h) (mark_turn b h) (mark_walked b h)) (behind_read (y ∷ ys) b h r s)

-- ---- an option

-- a word that is read as a long option
pub record IsLong (x n : Word) (v : Option Word) : Type 0 where
  pub unmarked : is_options_end x ≡ false
  pub minus : starts_with_minus x ≡ true
  pub two : has_one_minus x ≡ false
  pub names : long_of x ≡ Some (n, v)

-- an option at a part
module _ (h : Held) (x n : Word) (v : Option Word) (is : IsLong x n v) where
  -- a name that is unknown is a fault
  unknown_turn : (b : Bool) → IsUnknown n → turn_fault shape [] (at b h) x ≡ kind.UnknownArgument ∷ []
  unknown_turn true u = rw (is.unmarked, is.names, u.by_long) refl
  unknown_turn false u = rw (is.unmarked, is.names, u.by_long) refl

-- one with its value is none
joined_turn : (b : Bool) (h : Held) (x n w : Word) → IsLong x n (Some w) → IsOption n → settle_fault rules false h ≡ []
    → turn_fault shape [] (at b h) x ≡ []
joined_turn true h x n w is o settles =
    rw (is.unmarked, is.names, o.by_long, settles, o.one_value w (settled rules h).rows) refl
joined_turn false h x n w is o settles =
    rw (is.unmarked, is.names, o.by_long, settles, o.one_value w (settled rules h).rows) refl

-- it is one use more
joined_walked : (b : Bool) (h : Held) (x n w : Word) → IsLong x n (Some w) → IsOption n
    → walked rules [] (at b h) x ≡ at false (reacted rules (option_built n) (w ∷ []) h)
unfolding walked
joined_walked true h x n w is o = rw (is.unmarked, is.names, o.by_long) refl
joined_walked false h x n w is o = rw (is.unmarked, is.names, o.by_long) refl

-- one whose value comes next is none
apart_turn : (b : Bool) (h : Held) (x n : Word) → IsLong x n None → IsOption n → settle_fault rules false h ≡ []
    → turn_fault shape [] (at b h) x ≡ []
apart_turn true h x n is o settles = rw (is.unmarked, is.names, o.by_long, settles) refl
apart_turn false h x n is o settles = rw (is.unmarked, is.names, o.by_long, settles) refl

-- its value is wanted
apart_walked : (b : Bool) (h : Held) (x n : Word) → IsLong x n None → IsOption n
    → walked rules [] (at b h) x ≡ wanted n (settled rules h).rows h.skip
unfolding walked
apart_walked true h x n is o = rw (is.unmarked, is.names, o.by_long) refl
apart_walked false h x n is o = rw (is.unmarked, is.names, o.by_long) refl

-- the grammar knows no other option with its value as the next word
unknown_value : (n : Word) (words : List Word) (f : Found) → IsUnknown n → read words (at_value n f) ≡ None
unknown_value n [] f u = refl
unknown_value n (y ∷ ys) f u = rw (u.no_choice y) refl

-- nor with its value in it
unknown_read : (n : Word) (v : Option Word) (xs : List Word) (r : Option Found) → IsUnknown n
    → option_and_then (λ f. read_option (Some (n, v)) f (read xs)) r ≡ None
unknown_read n v xs None u = refl
unknown_read n None xs (Some f) u = unknown_value n xs f u
unknown_read n (Some w) xs (Some f) u = rw (u.no_choice w) refl

-- two steps, one after the other
pub then_then : {X : Type 0} (k : Found → Option Found) (next : Found → Option X) (r : Option Found)
    → option_and_then next (option_and_then k r) ≡ option_and_then (λ f. option_and_then next (k f)) r
then_then k next None = refl
then_then k next (Some f) = refl

-- an option is read as `clap` finds it
pub long_reads : (b : Bool) (h : Held) (r : Option Found) (x : Word) (xs : List Word) (n : Word) (v : Option Word) → Spots xs
    → Stands h r → IsLong x n v → IsOption n ⊎ IsUnknown n → Reads (x ∷ xs) (at b h) r at_part
long_reads b h r x xs n v spots s is (inr u) =
    rw (is.unmarked, is.two, is.minus, is.names)
    (either_none (are_placed xs) (judged (x ∷ xs) (at b h))
    (turn_fails x xs (at b h) kind.UnknownArgument [] (unknown_turn h x n v is b u)) ∙ sym (unknown_read n v xs r u))
long_reads b h r x xs n (Some w) spots s is (inl o) =
    rw (
      is.unmarked,
      is.two,
      is.minus,
      is.names,
      turn_to x xs (at b h) _ (joined_turn b h x n w is o s.settles) (joined_walked b h x n w is o),
    )
    (spots.at_parts false (reacted rules (option_built n) (w ∷ []) h) (option_and_then (with_option n w) r)
    (record { settles = refl; found = o.found w (settled rules h).rows ∙ ap (option_and_then (with_option n w)) s.found })
    ∙ then_then (with_option n w) (λ f. read xs (at_part f)) r)
long_reads b h r x xs n None spots s is (inl o) =
    rw (
      is.unmarked,
      is.two,
      is.minus,
      is.names,
      turn_to x xs (at b h) _ (apart_turn b h x n is o s.settles) (apart_walked b h x n is o),
    )
    (spots.at_values n (settled rules h).rows h.skip o
    ∙ ap (option_and_then (λ f. read xs (at_value n f))) s.found)
