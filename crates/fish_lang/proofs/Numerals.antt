-- The decimal of a whole number is a NUMBER with that value.
use Rattle.std.proofs.Common.{◌≡◌, ℕ, ◌<◌, ◌≤◌, ◌^◌, zero, suc, List, [], ◌∷◌, ◌++◌, refl, sym, ◌∙◌, subst, arith, length, get_or}
use Rattle.std.specs.Prelude.{ℤ, pos, negsuc, Bool, true, false, ◌&&◌, ◌||◌, ◌==◌, nat_lt, Some, None}
use Rattle.std.specs.Bool.{nat_eq}
use Rattle.std.specs.Char.{is_ascii_digit, digit_value}
use Rattle.std.specs.Fmt.{decimal, signed_decimal}
use Rattle.std.specs.List.{list_all}
use Rattle.std.specs.Str.Parse.{AllDigits, digits_value}
use Rattle.std.proofs.lemmas.Bool.Decides.{nat_tests}
use Rattle.std.proofs.lemmas.Fmt.{decimal_is_IsNumeral, first_decimal, decimal_digit}
use Rattle.fish_value.specs.Number.{is_number, is_positive, int_of, fits_i64}
use Rattle.fish_lang.specs.Token.{token_of, is_word_byte, is_blank, plain_word, keyword_of, condition_word, literal_word}
use Rattle.fish_lang.specs.declared.token.Token.TheVariants as kind
use Rattle.fish_lang.proofs.Depths.{is_negative}
use Rattle.fish_lang.proofs.Words.{lexed, lexed-word, EndsWord}

-- a digit by its value
digit : (c : ℕ) → digit_value c < 10 → is_ascii_digit c ≡ true
digit c h = grind (arith, nat_tests)

digits : (ds : List ℕ) → AllDigits 10 ds → list_all is_ascii_digit ds ≡ true
digits [] h = refl
digits (c ∷ ds) h = rw (digit c h.0) (digits ds h.1)

digit-word : (c : ℕ) → is_ascii_digit c ≡ true → is_word_byte c ≡ true
digit-word c h = rw h

digits-words : (ds : List ℕ) → AllDigits 10 ds → list_all is_word_byte ds ≡ true
digits-words [] h = refl
digits-words (c ∷ ds) h = rw (digit-word c (digit c h.0)) (digits-words ds h.1)

-- no keyword begins with a byte below `a`
low-byte : (c k : ℕ) → c < 97 → 97 ≤ k → nat_eq c k ≡ false
low-byte c k h i = grind (arith, nat_tests)

no_keyword : (c : ℕ) (w : List ℕ) → c < 97 → keyword_of (c ∷ w) ≡ None
unfolding keyword_of condition_word literal_word
no_keyword c w h =
    rw (
      low-byte c 116 h (omega arith),
      low-byte c 98 h (omega arith),
      low-byte c 102 h
          (omega arith),
      low-byte c 119 h (omega arith),
      low-byte c 110 h (omega arith),
      low-byte c 97
          h (omega arith),
      low-byte c 111 h (omega arith),
      low-byte c 101 h (omega arith),
      low-byte c
          115 h (omega arith),
    )

-- what a digit is not
digit-other : (c : ℕ) → is_ascii_digit c ≡ true → (is_blank c ≡ false) × ((c == 45) ≡ false)
    × ((c == 43) ≡ false) × (c < 97)
digit-other c h = (
  grind (arith, nat_tests),
  grind (arith, nat_tests),
  grind (arith, nat_tests),
  grind (arith, nat_tests),
)

no_zero : (c : ℕ) → 48 < c → (c == 48) ≡ false
no_zero c h = grind (arith, nat_tests)

or-true : (b : Bool) → (b || true) ≡ true
or-true true = refl
or-true false = refl

-- digits that don't begin with 0 are a positive number
positive : (c : ℕ) (ds : List ℕ) → 48 < c → AllDigits 10 (c ∷ ds) → is_positive (c ∷ ds) ≡ true
positive c ds h all =
    let some : nat_lt 0 (length (c ∷ ds)) ≡ true = grind (arith, nat_tests) in
    rw (no_zero c h, digits (c ∷ ds) all, some)

-- the token of digits
record IsDecimal (n : ℕ) (ds : List ℕ) : Type 0 where
  all : AllDigits 10 ds
  value : digits_value 10 ds ≡ n
  first : 0 < n → 48 < get_or ds 0 0
  none : n ≡ 0 → ds ≡ 48 ∷ []

decimal-is : (n : ℕ) → n < 2 ^ 64 → IsDecimal n (decimal n)
decimal-is n h =
    let numeral = decimal_is_IsNumeral n h in
    record {
      all = numeral.0.1;
      value = numeral.1;
      first = λ p. first_decimal n p h;
      none = λ e. decimal_digit n (omega arith) ∙ rw e;
    }

nonempty : (n : ℕ) → n < 2 ^ 64 → 0 < length (decimal n)
nonempty n h = (decimal_is_IsNumeral n h).0.0

number-of-digits : (c : ℕ) (ds : List ℕ) (n : ℕ) → IsDecimal n (c ∷ ds) → is_number (c ∷ ds) ≡ true
number-of-digits c ds zero d =
    let P : List ℕ → Type 0 = λ z. is_number z ≡ true in
    subst P (sym (d.none refl)) refl
number-of-digits c ds (suc n) d =
    let other = digit-other c (digit c d.all.0) in
    rw (other.1, positive c ds (d.first (omega arith)) d.all) (or-true _)

pub fits_pos : (n : ℕ) → fits_i64 (pos n) ≡ true → n < 2 ^ 63
fits_pos n h = grind (arith, nat_tests)

pub fits_negsuc : (n : ℕ) → fits_i64 (negsuc n) ≡ true → n < 2 ^ 63
fits_negsuc n h = grind (arith, nat_tests)

positive-token : (c : ℕ) (ds : List ℕ) (n : ℕ) → IsDecimal n (c ∷ ds) → fits_i64 (pos n) ≡ true
    → token_of (c ∷ ds) ≡ Some (kind.Number false (Some (pos n)))
unfolding token_of plain_word int_of
positive-token c ds n d fits =
    let is = digit c d.all.0 in
    let other = digit-other c is in
    rw (
      other.0,
      digit-word c is,
      no_keyword c ds other.3,
      number-of-digits c ds n d,
      other.1,
      other.2,
      d.value,
      fits,
    )

negative-token : (c : ℕ) (ds : List ℕ) (n : ℕ) → IsDecimal (suc n) (c ∷ ds) → fits_i64 (negsuc n)
    ≡ true → token_of (45 ∷ c ∷ ds) ≡ Some (kind.Number true (Some (negsuc n)))
unfolding token_of plain_word int_of
negative-token c ds n d fits =
    rw (
      no_keyword 45 (c ∷ ds) (omega arith),
      positive c ds (d.first (omega arith)) d.all,
      or-true
          ((length (45 ∷ c ∷ ds) == 1) && false),
      d.value,
      fits,
    )

positive-lexed : (ds rest : List ℕ) (n : ℕ) → IsDecimal n ds → 0 < length ds → fits_i64 (pos n)
    ≡ true → EndsWord rest → lexed (ds ++ rest) ≡ kind.Number false (Some (pos n)) ∷ lexed rest
positive-lexed [] rest n d some fits e = absurd (omega arith)
positive-lexed (c ∷ ds) rest n d some fits e =
    lexed-word c ds rest _ (rw (digit-word c (digit c d.all.0))) (digits-words ds d.all.1) e
    (positive-token c ds n d fits)

negative-lexed : (ds rest : List ℕ) (n : ℕ) → IsDecimal (suc n) ds → 0 < length ds
    → fits_i64 (negsuc n) ≡ true → EndsWord rest → lexed (45 ∷ (ds ++ rest))
    ≡ kind.Number true (Some (negsuc n)) ∷ lexed rest
negative-lexed [] rest n d some fits e = absurd (omega arith)
negative-lexed (c ∷ ds) rest n d some fits e =
    lexed-word 45 (c ∷ ds) rest _ refl (digits-words (c ∷ ds) d.all) e (negative-token c ds n d fits)

-- a whole number of 64 bits
pub lexed-int : (n : ℤ) (rest : List ℕ) → fits_i64 n ≡ true → EndsWord rest
    → lexed (signed_decimal n ++ rest) ≡ kind.Number (is_negative n) (Some n) ∷ lexed rest
lexed-int (pos n) rest fits e =
    let small : n < 2 ^ 64 = omega (arith, fits_pos n fits) in
    positive-lexed (decimal n) rest n (decimal-is n small) (nonempty n small) fits e
lexed-int (negsuc n) rest fits e =
    let small : suc n < 2 ^ 64 = omega (arith, fits_negsuc n fits) in
    negative-lexed (decimal (suc n)) rest n (decimal-is (suc n) small) (nonempty (suc n) small) fits e
