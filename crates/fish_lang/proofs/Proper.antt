-- What holds of each token of a source.
use Rattle.std.proofs.Common.{◌≡◌, ℕ, List, refl}
use Rattle.std.specs.Prelude.{Bool, true, false, ◌&&◌, ◌==◌, slice_index, codes, if◌then◌else◌, Option, Some, None, option_and_then, IsUtf8}
use Rattle.std.specs.Str.{is_utf8, bytes_eq}
use Rattle.std.specs.Str.Parse.{starts_with_minus, signed_digits_value}
use Rattle.std.proofs.lemmas.Str.{IsUtf8-from_is_utf8}
use Rattle.serde_json.specs.Find.{as_str}
use Rattle.fish_value.specs.Json.{reading}
use Rattle.fish_value.specs.Number.{is_number, int_of, fits_i64}
use Rattle.fish_lang.specs.Token.{token_of, keyword_of, word_or_keyword, plain_word, string_token, sign_token, is_ident}
use Rattle.fish_lang.specs.Token.{is_blank, begins_word}
use Rattle.fish_lang.specs.declared.definition.Op.TheVariants as op
use Rattle.fish_lang.specs.declared.token.Keyword.{Keyword}
use Rattle.fish_lang.specs.declared.token.Token.{Token}
use Rattle.fish_lang.specs.declared.token.Token.TheVariants as kind
use Rattle.fish_lang.proofs.Depths.{is_negative}
use Rattle.fish_lang.proofs.TokenLemmas.{IsUtf8-ident}

-- what holds of each token of a source
abbrev pub IsProper : Token → Type 0
IsProper (kind.Ident s) = IsUtf8 s
IsProper (kind.Str s) = IsUtf8 s
IsProper (kind.Number negative (Some n)) = (fits_i64 n ≡ true) × (negative ≡ false → is_negative n ≡ false)
IsProper _ = Unit {0}

abbrev pub IsProperIfAny : Option Token → Type 0
IsProperIfAny None = Unit {0}
IsProperIfAny (Some t) = IsProper t

pub value-proper : (w : List ℕ) (fits : Bool) → (is_number w && fits_i64 (signed_digits_value 10 w))
    ≡ fits → is_number w ≡ true
    → IsProper (kind.Number (starts_with_minus w) (if fits then Some (signed_digits_value 10 w) else None))
value-proper w true e h = (rw h at e, λ plain. rw plain)
value-proper w false e h = tt

pub number-proper : (w : List ℕ) → is_number w ≡ true → IsProper (kind.Number (starts_with_minus w) (int_of w))
unfolding int_of
number-proper w h = value-proper w (is_number w && fits_i64 (signed_digits_value 10 w)) refl h

pub plain-proper : (w : List ℕ) (n i : Bool) → is_number w ≡ n → is_ident w ≡ i
    → IsProper (if n then kind.Number (starts_with_minus w) (int_of w) else
    (if i then kind.Ident w else kind.Other))
plain-proper w true i e f = number-proper w e
plain-proper w false true e f = IsUtf8-ident w f
plain-proper w false false e f = tt

pub word-proper : (k : Option Keyword) (w : List ℕ) → IsProper (word_or_keyword k w)
unfolding plain_word
word-proper (Some k) w = tt
word-proper None w = plain-proper w (is_number w) (is_ident w) refl refl

pub text-proper : (s : List ℕ) (b : Bool) → is_utf8 s ≡ b → IsProper (if b then kind.Str s else kind.Other)
text-proper s true e = IsUtf8-from_is_utf8 s e
text-proper s false e = tt

pub string-proper : (s : Option (List ℕ)) → IsProper (string_token s)
string-proper (Some s) = text-proper s (is_utf8 s) refl
string-proper None = tt

-- the signs, by the tests
pub signs-proper : (a b c d e f g h i : Bool)
    → IsProper (if a then kind.Compare op.Eq else
    (if b then kind.Compare op.Ne else
    (if c then kind.Compare op.Lt else
    (if d then kind.Compare op.Le else
    (if e then kind.Compare op.Gt else
    (if f then kind.Compare op.Ge else
    (if g then kind.Open else (if h then kind.Close else (if i then kind.Dot else (kind.Other))))))))))
signs-proper true b c d e f g h i = tt
signs-proper false true c d e f g h i = tt
signs-proper false false true d e f g h i = tt
signs-proper false false false true e f g h i = tt
signs-proper false false false false true f g h i = tt
signs-proper false false false false false true g h i = tt
signs-proper false false false false false false true h i = tt
signs-proper false false false false false false false true i = tt
signs-proper false false false false false false false false true = tt
signs-proper false false false false false false false false false = tt

pub sign-proper : (t : List ℕ) → IsProper (sign_token t)
unfolding sign_token
sign-proper t = signs-proper (bytes_eq t (codes "=")) (bytes_eq t (codes "!="))
    (bytes_eq t (codes "<")) (bytes_eq t (codes "<=")) (bytes_eq t (codes ">"))
    (bytes_eq t (codes ">=")) (bytes_eq t (codes "(")) (bytes_eq t (codes ")")) (bytes_eq t (codes "."))

-- the kinds, by the tests
pub kinds-proper : (x y z : Bool) (w s g : Token) → IsProper w → IsProper s → IsProper g
    → IsProperIfAny (if x then None else (if y then Some w else (if z then Some s else Some g)))
kinds-proper true y z w s g h i j = tt
kinds-proper false true z w s g h i j = h
kinds-proper false false true w s g h i j = i
kinds-proper false false false w s g h i j = j

pub token-proper : (t : List ℕ) → IsProperIfAny (token_of t)
unfolding token_of
token-proper t =
    kinds-proper (is_blank (slice_index t 0)) (begins_word (slice_index t 0))
    (slice_index t 0 == 34) (word_or_keyword (keyword_of t) t)
    (string_token (option_and_then as_str (reading t))) (sign_token t)
    (word-proper (keyword_of t) t) (string-proper (option_and_then as_str (reading t))) (sign-proper t)
