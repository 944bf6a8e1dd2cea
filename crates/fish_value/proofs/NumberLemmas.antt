-- The texts of numbers are numerals as std's `parse` wants them, and ASCII, so texts.
use Rattle.std.proofs.Common.{◌≡◌, ℕ, ◌<◌, zero, suc, List, [], ◌∷◌, refl, arith, ◌⊎◌, inl, inr}
use Rattle.std.specs.Prelude.{Bool, true, false, length, ◌&&◌, ◌||◌, ◌==◌, nat_lt, Some, None}
use Rattle.std.specs.Prelude.{Result, Ok, Err, ℤ, pos, negsuc, FitsSigned, if◌then◌else◌}
use Rattle.std.specs.Int.{w64}
use Rattle.std.specs.Bool.{Decides}
use Rattle.std.specs.Char.{is_ascii_digit, digit_value}
use Rattle.std.specs.List.{list_all}
use Rattle.std.specs.Result.{result_ok}
use Rattle.std.specs.Str.{IsAscii}
use Rattle.std.specs.Str.Parse.{AllDigits, IsNumeral, ParsesSigned, without_leading_sign, signed_digits_value}
use Rattle.std.proofs.lemmas.Bool.Decides.{nat_tests}
use Rattle.fish_value.specs.Number.{fits_i64, int_of, is_number, is_positive}

-- what two tests say where both hold
both : (a b : Bool) → (a && b) ≡ true → (a ≡ true) × (b ≡ true)
both true b h = (refl, h)
both false b h = cc

-- what two tests say where one holds
either : (a b : Bool) → (a || b) ≡ true → (a ≡ true) ⊎ (b ≡ true)
either true b h = inl refl
either false b h = inr h

-- a digit's value is below ten, and its byte is ASCII and no sign
digit : (c : ℕ) → is_ascii_digit c ≡ true → (digit_value c < 10) × (c < 128) × ((c == 45) ≡ false) × ((c == 43) ≡ false)
digit c h = (grind (arith, nat_tests), grind (arith, nat_tests), grind (arith, nat_tests), grind (arith, nat_tests))

-- digits are digits to `parse`
AllDigits-digits : (b : List ℕ) → list_all is_ascii_digit b ≡ true → AllDigits 10 b
AllDigits-digits [] h = tt
AllDigits-digits (c ∷ cs) h =
    let parts = both (is_ascii_digit c) (list_all is_ascii_digit cs) h in
    ((digit c parts.0).0, AllDigits-digits cs parts.1)

-- digits are ASCII
IsAscii-digits : (b : List ℕ) → list_all is_ascii_digit b ≡ true → IsAscii b
IsAscii-digits [] h i = omega arith
IsAscii-digits (c ∷ cs) h zero = (digit c (both (is_ascii_digit c) (list_all is_ascii_digit cs) h).0).1
IsAscii-digits (c ∷ cs) h (suc i) = IsAscii-digits cs (both (is_ascii_digit c) (list_all is_ascii_digit cs) h).1 i

-- after an ASCII byte, ASCII goes on
IsAscii-cons : (c : ℕ) (cs : List ℕ) → c < 128 → IsAscii cs → IsAscii (c ∷ cs)
IsAscii-cons c cs h hs zero = h
IsAscii-cons c cs h hs (suc i) = hs i

-- what `parse` wants of a number's text
abbrev IsNumberText : List ℕ → Type 0
IsNumberText b = IsNumeral 10 (without_leading_sign b) × IsAscii b

IsNumberText-digits : (x : ℕ) (xs : List ℕ) → list_all is_ascii_digit (x ∷ xs) ≡ true → IsNumberText (x ∷ xs)
IsNumberText-digits x xs h =
    let first = digit x (both (is_ascii_digit x) (list_all is_ascii_digit xs) h).0 in
    let numeral : IsNumeral 10 (x ∷ xs) = (omega arith, AllDigits-digits (x ∷ xs) h) in
    (rw (first.2, first.3) numeral, IsAscii-digits (x ∷ xs) h)

-- a positive number has a digit, and digits only
positive : (b : List ℕ) → is_positive b ≡ true → (0 < length b) × (list_all is_ascii_digit b ≡ true)
positive b h =
    let parts = both (nat_lt 0 (length b) && _) (list_all is_ascii_digit b) h in
    let some = (both (nat_lt 0 (length b)) _ parts.0).0 in
    (grind (arith, nat_tests), parts.1)

-- after a minus, a positive number
IsNumberText-minus : (x : ℕ) (xs : List ℕ) → (x == 45) ≡ true → is_positive xs ≡ true → IsNumberText (x ∷ xs)
IsNumberText-minus x xs minus h =
    let parts = positive xs h in
    let ascii : x < 128 = grind (arith, nat_tests) in
    let numeral : IsNumeral 10 xs = (parts.0, AllDigits-digits xs parts.1) in
    (rw minus numeral, IsAscii-cons x xs ascii (IsAscii-digits xs parts.1))

-- zero alone
IsNumberText-zero : (x : ℕ) (xs : List ℕ) → (length (x ∷ xs) == 1) ≡ true → (x == 48) ≡ true → IsNumberText (x ∷ xs)
IsNumberText-zero x [] h is = IsNumberText-digits x [] (grind (arith, nat_tests))
IsNumberText-zero x (y ∷ ys) h is = absurd (grind (arith, nat_tests))

-- after the choice between a minus and none
IsNumberText-signed : (x : ℕ) (xs : List ℕ) (minus : Bool) → (x == 45) ≡ minus
    → (if minus then is_positive xs else is_positive (x ∷ xs)) ≡ true → IsNumberText (x ∷ xs)
IsNumberText-signed x xs true e h = IsNumberText-minus x xs e h
IsNumberText-signed x xs false e h = IsNumberText-digits x xs (positive (x ∷ xs) h).1

-- the text of a number is what `parse` wants
pub IsNumberText-is_number : (b : List ℕ) → is_number b ≡ true → IsNumberText b
IsNumberText-is_number [] h = cc
IsNumberText-is_number (x ∷ xs) h =
    elim (either (length (x ∷ xs) == 1 && (x == 48)) _ h) [
      | inl alone ↦ (let parts = both (length (x ∷ xs) == 1) (x == 48) alone in IsNumberText-zero x xs parts.0 parts.1)
      | inr signed ↦ IsNumberText-signed x xs (x == 45) refl signed
    ]

-- the test of a number's size is the size that an i64 has
pub Decides-fits_i64 : (z : ℤ) → Decides (fits_i64 z) (FitsSigned w64 z)
Decides-fits_i64 (pos n) = (λ h. record { sfits = grind (arith, nat_tests) }, λ f. grind (arith, nat_tests, f.sfits))
Decides-fits_i64 (negsuc n) = (λ h. record { sfits = grind (arith, nat_tests) }, λ f. grind (arith, nat_tests, f.sfits))

-- off the form of a number there is none
pub int_of-other : (b : List ℕ) → is_number b ≡ false → int_of b ≡ None
unfolding int_of
int_of-other b h = rw h

-- on the form, what `parse` reads is the number
pub int_of-parsed : {E : Type 0} (b : List ℕ) (r : Result ℤ E) → is_number b ≡ true → ParsesSigned w64 10 b r → result_ok r ≡ int_of b
unfolding int_of
int_of-parsed b (Ok z) h parsed = rw (h, (Decides-fits_i64 (signed_digits_value 10 b)).1 parsed.0.1, parsed.1)
int_of-parsed b (Err e) h parsed =
    let text = IsNumberText-is_number b h in
    let z = signed_digits_value 10 b in
    elim (fits_i64 z) as (λ t. fits_i64 z ≡ t → None ≡ (if is_number b && t then Some z else None)) [
      | true ↦ λ e. absurd (parsed (text.0, (Decides-fits_i64 z).0 e))
      | false ↦ λ _. rw h
    ] refl
