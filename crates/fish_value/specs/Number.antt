-- The texts of whole numbers, in the one form that stands for a number.
use Rattle.std.specs.Prelude.{ℕ, ◌^◌, ℤ, pos, negsuc, List, Bool, not, ◌&&◌, ◌||◌, ◌==◌, nat_lt, Option, Some, None}
use Rattle.std.specs.Prelude.{length, drop, slice_index, if◌then◌else◌}
use Rattle.std.specs.Char.{is_ascii_digit}
use Rattle.std.specs.List.{list_all}
use Rattle.std.specs.Str.Parse.{starts_with_minus, signed_digits_value}

-- the number is within the 64 bits of an i64
abbrev pub fits_i64 : ℤ → Bool
fits_i64 (pos n) = nat_lt n (2 ^ 63)
fits_i64 (negsuc n) = nat_lt n (2 ^ 63)

-- the text is `[1-9][0-9]*`
abbrev pub is_positive : List ℕ → Bool
is_positive b = nat_lt 0 (length b) && not (slice_index b 0 == 48) && list_all is_ascii_digit b

-- the text is `0` or `-?[1-9][0-9]*`
abbrev pub is_number : List ℕ → Bool
is_number b = (length b == 1 && slice_index b 0 == 48) || (if starts_with_minus b then is_positive (drop 1 b) else is_positive b)

-- the number that a text stands for: none off that form, and none outside an i64
unfoldable pub int_of : List ℕ → Option ℤ
int_of b = if is_number b && fits_i64 (signed_digits_value 10 b) then Some (signed_digits_value 10 b) else None
