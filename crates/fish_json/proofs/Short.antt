-- Digits alone, up to eighteen, are a number.
use Rattle.std.proofs.Common.{◌≡◌, ℕ, ◌-◌, ◌<◌, ◌≤◌, ◌^◌, ◌==◌, ◌&&◌, List, [], ◌∷◌, ◌++◌, length, get_or}
use Rattle.std.proofs.Common.{true, false, refl, sym, ap, ◌∙◌, arith, append-nil, subst, ne_eqb}
use Rattle.std.specs.Prelude.{is_some, nat_lt, slice_range}
use Rattle.std.specs.Char.{is_ascii_digit}
use Rattle.std.specs.List.{list_all}
use Rattle.std.specs.Str.Parse.{AllDigits, digits_value}
use Rattle.std.proofs.lemmas.Int.Digits.{digits_value-lt}
use Rattle.std.proofs.lemmas.Bool.Decides.{nat_tests}
use Rattle.std.proofs.lemmas.List.{take_all}
use Rattle.std.proofs.lemmas.Str.Parse.{numerals_by_value, tells_all_ascii_digits, digit_from_value}
use native.Mathlib.Nat.{pow-le-pow_right}
use Rattle.std.specs.Str.{all_ascii_digits}
use Rattle.std.specs.Float.Numeral.{scan_numeral, digits_end}
use Rattle.fast_float.proofs.Integers.{digits_len_all}
use Rattle.serde_json.specs.Read.{number_of}

-- what is tested to be digits has digits
told : (s : List ℕ) → list_all is_ascii_digit s ≡ all_ascii_digits s
told [] = refl
told (c ∷ cs) = ap (λ b. is_ascii_digit c && b) (told cs)

all_digits : (s : List ℕ) → list_all is_ascii_digit s ≡ true → AllDigits 10 s
all_digits s h = (numerals_by_value _ tells_all_ascii_digits).to s (sym (told s) ∙ h)

-- past the end of a list stands nothing
at_end : (s : List ℕ) → get_or s (length s) 0 ≡ 0
at_end [] = refl
at_end (c ∷ cs) = at_end cs

-- digits alone end where the list does
ends : (s : List ℕ) → AllDigits 10 s → digits_end s 0 ≡ length s
ends s h = omega (arith, digits_len_all s h)

-- a list from its start to its end is the list
whole_is : (s : List ℕ) → slice_range s 0 (length s) ≡ s
whole_is s = take_all (length s - 0) s (omega arith)

-- digits alone are scanned as the whole part
scanned : (s : List ℕ) → AllDigits 10 s → scan_numeral s ≡ record {
  whole = s;
  point = false;
  fraction = [];
  exponent_negative = false;
  exponent = [];
  len = length s;
}
unfolding scan_numeral
scanned s h = rw (ends s h, at_end s, at_end s, whole_is s) refl

-- a digit is no minus
no_minus : (s : List ℕ) → 0 < length s → AllDigits 10 s → (get_or s 0 0 == 45) ≡ false
no_minus [] some h = absurd (omega arith)
no_minus (c ∷ cs) some h = ne_eqb c 45 (λ e. let d = digit_from_value c h.0 in omega (arith, d.0, d.1))

pub short_number : (s : List ℕ) → 0 < length s → length s ≤ 18 → list_all is_ascii_digit s ≡ true → is_some (number_of s) ≡ true
unfolding number_of
short_number s some few h =
    let d = all_digits s h in
    let small : digits_value 10 (s ++ []) < 10 ^ 18 =
    subst (λ l. digits_value 10 l < 10 ^ 18) (sym (append-nil s))
    (omega (arith, digits_value-lt 10 s d, pow-le-pow_right {n = 10} (omega arith) few)) in
    let first = no_minus s some d in
    let whole : nat_lt 0 (length s) ≡ true = grind (arith, nat_tests) in
    let fits : nat_lt (digits_value 10 (s ++ [])) (2 ^ 64) ≡ true = grind (arith, nat_tests) in
    rw (first, scanned s d, whole, fits) refl
