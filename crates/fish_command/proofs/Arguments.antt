-- The arguments of a line as `clap` has them once they are built, and what it knows of each name.
use Rattle.std.proofs.Common.{◌≡◌, ℕ, List, [], ◌∷◌, Bool, true, false, cond, refl, sym, ap, ◌∙◌, subst, zero}
use Rattle.std.proofs.Common.{suc, inl, inr}
use Rattle.std.specs.Prelude.{ℤ, pos, nat_le, neg_ℤ, ◌&&◌, ◌⊎◌, Some, None, codes, option_and_then, option_map}
use Rattle.std.specs.Str.{bytes_eq}
use Rattle.std.specs.Str.Parse.{starts_with_minus, signed_digits_value, digits_value, without_leading_sign}
use Rattle.std.proofs.lemmas.Slice.Eq.{bytes_eq-Decides}
use Rattle.fish_value.specs.Number.{int_of, is_number, fits_i64}
use Rattle.clap.specs.Words.{Row, Rule, built}
use Rattle.clap.specs.Walk.{arg_by_id, arg_by_long, reading_by, used}
use Rattle.clap.specs.Simple.{Shape, filled, with_index}
use Rattle.clap.specs.Faults.{use_fault}
use Rattle.clap.specs.declared.parser.matches.ValueSource.TheVariants.{CommandLine}
use Rattle.fish_command.specs.within.Matched.{bits_of, found_in, line_app, one, options_in, option_rule, options_of}
use Rattle.fish_command.specs.within.Matched.{pages_in_word, plain_rule, values_for_id}
use Rattle.fish_command.specs.Options.{Bits, Form, Pages, Word, choice_of, layout_of, within}
use Rattle.fish_command.specs.within.Reading.{with_option, found_with_word}
use Rattle.fish_command.specs.Sizes.{fewest_bits, most_bits, most_pages}
use Rattle.fish_command.proofs.Names.{same_word}
use Rattle.clap.specs.declared.error.kind.ErrorKind.TheVariants as kind
use Rattle.fish_command.proofs.Values.{values_more, values_other, one_more, form_more, pages_more, bits_more}
use Rattle.fish_command.proofs.Values.{beside, word_beside}

-- ---- the arguments of a line, as clap has them once they are built

-- what a parse reads of the command
abbrev pub shape : Shape
shape = (built line_app).top

-- its arguments
abbrev pub rules : List Rule
rules = shape.rules

-- the plain words, with what building adds to them
abbrev pub plain_built : Rule
plain_built = with_index 1 (filled plain_rule)

-- an option, likewise
abbrev pub option_built : Word → Rule
option_built n = filled (option_rule n)

-- what `clap` knows of an option by its name: it finds it, takes one value for it, and adds what that stands for
pub record IsOption (n : Word) : Type 0 where
  pub itself : bytes_eq n n ≡ true
  pub by_long : arg_by_long rules n ≡ Some (option_built n)
  pub by_id : arg_by_id rules n ≡ Some (option_built n)
  pub none : (rows : List Row) → use_fault false (option_built n) [] rows ≡ kind.InvalidValue ∷ []
  pub one_value : (v : Word) (rows : List Row) → use_fault false (option_built n) (v ∷ []) rows ≡ []
  pub found : (v : Word) (rows : List Row)
      → found_in (used (option_built n) (v ∷ []) rows) ≡ option_and_then (with_option n v) (found_in rows)
  pub no_minus : (v : Word) → starts_with_minus v ≡ true → choice_of n v ≡ None

-- ---- values that begin with a minus

-- a value that begins with a minus is no word that begins with none
no_text : (v t : Word) → starts_with_minus v ≡ true → starts_with_minus t ≡ false → (b : Bool)
    → bytes_eq v t ≡ b → b ≡ false
no_text v t minus plain true is =
    let bad : starts_with_minus t ≡ true = subst (λ (w : Word). starts_with_minus w ≡ true) (same_word v t is) minus in
    cc
no_text v t minus plain false is = refl

-- so it names no layout
no_layout : (v : Word) → starts_with_minus v ≡ true → layout_of v ≡ None
no_layout v minus =
    rw (
      no_text v (codes "json") minus refl _ refl,
      no_text v (codes "csv") minus refl _ refl,
      no_text v (codes "csv-header") minus refl _ refl,
    ) refl

-- a number below zero, or zero itself, is not within bounds from one on
neg_within : (low high n : ℕ) → nat_le low 0 ≡ false → within low high (Some (neg_ℤ (pos n))) ≡ None
neg_within low high zero above = rw above refl
neg_within low high (suc n) above = refl

-- the same, whether the text is a number or not
neg_within_by : (low high n : ℕ) (b : Bool) (z : ℤ) → nat_le low 0 ≡ false → z ≡ neg_ℤ (pos n)
    → within low high (cond b (Some z) None) ≡ None
neg_within_by low high n false z above is = refl
neg_within_by low high n true z above is = ap (λ (y : ℤ). within low high (Some y)) is ∙ neg_within low high n above

-- so a value that begins with a minus is no number within such bounds
no_number : (low high : ℕ) (v : Word) → nat_le low 0 ≡ false → starts_with_minus v ≡ true → within low high (int_of v) ≡ None
unfolding int_of
no_number low high v above minus =
    let n = digits_value 10 (without_leading_sign v) in
    let below : signed_digits_value 10 v ≡ neg_ℤ (pos n) = ap (λ (b : Bool). cond b (neg_ℤ (pos n)) (pos n)) minus in
    neg_within_by low high n (is_number v && fits_i64 (signed_digits_value 10 v)) (signed_digits_value 10 v) above below

-- ---- the options

-- what was found, with one use of an argument more
module _ (v : Word) (rows : List Row) where
  -- with `--form`
  form_found : found_in (used (option_built (codes "form")) (v ∷ []) rows)
      ≡ option_and_then (with_option (codes "form") v) (found_in rows)
  form_found =
      let how = reading_by (option_built (codes "form")) in
      let own = ap (one layout_of) (values_more (codes "form") how CommandLine (v ∷ []) rows refl)
      ∙ one_more layout_of (values_for_id (codes "form") rows) v in
      let pages = ap (one pages_in_word) (values_other (codes "form") (codes "pages") how CommandLine (v ∷ []) rows refl) in
      let bits = ap (one bits_of) (values_other (codes "form") (codes "bits") how CommandLine (v ∷ []) rows refl) in
      let words = values_other (codes "form") (codes "words") how CommandLine (v ∷ []) rows refl in
      (λ i. option_map (λ p. record { plain = words i; options = p }) (options_of (own i) (pages i) (bits i)))
      ∙ ap (option_map (λ p. record { plain = values_for_id (codes "words") rows; options = p }))
      (form_more (one layout_of (values_for_id (codes "form") rows)) (one pages_in_word (values_for_id (codes "pages") rows))
      (one bits_of (values_for_id (codes "bits") rows)) (layout_of v))
      ∙ beside (values_for_id (codes "words") rows) (options_in rows) (option_map Form (layout_of v))

  -- with `--pages`
  pages_found : found_in (used (option_built (codes "pages")) (v ∷ []) rows)
      ≡ option_and_then (with_option (codes "pages") v) (found_in rows)
  pages_found =
      let how = reading_by (option_built (codes "pages")) in
      let own = ap (one pages_in_word) (values_more (codes "pages") how CommandLine (v ∷ []) rows refl)
      ∙ one_more pages_in_word (values_for_id (codes "pages") rows) v in
      let form = ap (one layout_of) (values_other (codes "pages") (codes "form") how CommandLine (v ∷ []) rows refl) in
      let bits = ap (one bits_of) (values_other (codes "pages") (codes "bits") how CommandLine (v ∷ []) rows refl) in
      let words = values_other (codes "pages") (codes "words") how CommandLine (v ∷ []) rows refl in
      (λ i. option_map (λ p. record { plain = words i; options = p }) (options_of (form i) (own i) (bits i)))
      ∙ ap (option_map (λ p. record { plain = values_for_id (codes "words") rows; options = p }))
      (pages_more (one layout_of (values_for_id (codes "form") rows)) (one pages_in_word (values_for_id (codes "pages") rows))
      (one bits_of (values_for_id (codes "bits") rows)) (pages_in_word v))
      ∙ beside (values_for_id (codes "words") rows) (options_in rows) (option_map Pages (pages_in_word v))

  -- with `--bits`
  bits_found : found_in (used (option_built (codes "bits")) (v ∷ []) rows)
      ≡ option_and_then (with_option (codes "bits") v) (found_in rows)
  bits_found =
      let how = reading_by (option_built (codes "bits")) in
      let own = ap (one bits_of) (values_more (codes "bits") how CommandLine (v ∷ []) rows refl)
      ∙ one_more bits_of (values_for_id (codes "bits") rows) v in
      let form = ap (one layout_of) (values_other (codes "bits") (codes "form") how CommandLine (v ∷ []) rows refl) in
      let pages = ap (one pages_in_word) (values_other (codes "bits") (codes "pages") how CommandLine (v ∷ []) rows refl) in
      let words = values_other (codes "bits") (codes "words") how CommandLine (v ∷ []) rows refl in
      (λ i. option_map (λ p. record { plain = words i; options = p }) (options_of (form i) (pages i) (own i)))
      ∙ ap (option_map (λ p. record { plain = values_for_id (codes "words") rows; options = p }))
      (bits_more (one layout_of (values_for_id (codes "form") rows)) (one pages_in_word (values_for_id (codes "pages") rows))
      (one bits_of (values_for_id (codes "bits") rows)) (bits_of v))
      ∙ beside (values_for_id (codes "words") rows) (options_in rows) (option_map Bits (bits_of v))

  -- with a plain word
  pub word_found : found_in (used plain_built (v ∷ []) rows) ≡ option_map (found_with_word v) (found_in rows)
  word_found =
      let how = reading_by plain_built in
      let own = values_more (codes "words") how CommandLine (v ∷ []) rows refl in
      let form = ap (one layout_of) (values_other (codes "words") (codes "form") how CommandLine (v ∷ []) rows refl) in
      let pages = ap (one pages_in_word) (values_other (codes "words") (codes "pages") how CommandLine (v ∷ []) rows refl) in
      let bits = ap (one bits_of) (values_other (codes "words") (codes "bits") how CommandLine (v ∷ []) rows refl) in
      (λ i. option_map (λ p. record { plain = own i; options = p }) (options_of (form i) (pages i) (bits i)))
      ∙ word_beside (values_for_id (codes "words") rows) v (options_in rows)

-- `form` is an option
form_is : IsOption (codes "form")
form_is = record {
  itself = refl;
  by_long = refl;
  by_id = refl;
  none = λ rows. refl;
  one_value = λ v rows. refl;
  found = form_found;
  no_minus = λ v minus. ap (option_map Form) (no_layout v minus);
}

-- so is `pages`
pages_is : IsOption (codes "pages")
pages_is = record {
  itself = refl;
  by_long = refl;
  by_id = refl;
  none = λ rows. refl;
  one_value = λ v rows. refl;
  found = pages_found;
  no_minus = λ v minus. ap (option_map Pages) (no_number 1 most_pages v refl minus);
}

-- so is `bits`
bits_is : IsOption (codes "bits")
bits_is = record {
  itself = refl;
  by_long = refl;
  by_id = refl;
  none = λ rows. refl;
  one_value = λ v rows. refl;
  found = bits_found;
  no_minus = λ v minus. ap (option_map Bits) (no_number fewest_bits most_bits v refl minus);
}

-- a test of two words is false where that of them the other way round is
turned_by : (a b : Word) (t : Bool) → bytes_eq b a ≡ t → bytes_eq a b ≡ false → t ≡ false
turned_by a b true is apart = let same : bytes_eq a b ≡ true = (bytes_eq-Decides a b).1 (sym (same_word b a is)) in cc
turned_by a b false is apart = refl

-- two words that differ do so the other way round
turned : (a b : Word) → bytes_eq a b ≡ false → bytes_eq b a ≡ false
turned a b apart = turned_by a b (bytes_eq b a) refl apart

-- neither `clap` nor the grammar knows an option of this name
pub record IsUnknown (n : Word) : Type 0 where
  pub by_long : arg_by_long rules n ≡ None
  pub no_choice : (v : Word) → choice_of n v ≡ None

-- a name is an option's or unknown, by the tests for the three
named_by : (n : Word) (a b c : Bool) → bytes_eq (codes "form") n ≡ a → bytes_eq (codes "pages") n ≡ b
    → bytes_eq (codes "bits") n ≡ c → IsOption n ⊎ IsUnknown n
named_by n true b c form pages bits = inl (subst IsOption (same_word (codes "form") n form) form_is)
named_by n false true c form pages bits = inl (subst IsOption (same_word (codes "pages") n pages) pages_is)
named_by n false false true form pages bits = inl (subst IsOption (same_word (codes "bits") n bits) bits_is)
named_by n false false false form pages bits = inr (record {
  by_long = rw (form, pages, bits) refl;
  no_choice = λ v. rw (turned (codes "form") n form, turned (codes "pages") n pages, turned (codes "bits") n bits) refl;
})

-- so is each name
pub named : (n : Word) → IsOption n ⊎ IsUnknown n
named n = named_by n _ _ _ refl refl refl
