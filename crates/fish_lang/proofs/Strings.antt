-- What `serde_json` writes for a text is one string, with that reading.
use Rattle.std.proofs.Common.{◌≡◌, ℕ, ◌+◌, ◌<◌, suc, List, [], ◌∷◌, ◌++◌, refl, sym, ◌∙◌, ap, arith, length, zero-le}
use Rattle.std.proofs.Common.{append_assoc, append-nil, length-append}
use Rattle.std.specs.Prelude.{◌/◌, ◌%◌, Bool, true, false, cond, ◌&&◌, ◌==◌, nat_lt, Some, IsUtf8}
use Rattle.std.specs.Char.{digit_char}
use Rattle.std.proofs.lemmas.Bool.Decides.{nat_tests}
use Rattle.std.proofs.lemmas.Str.{is_utf8-from_IsUtf8}
use Rattle.json.specs.Json as json
use Rattle.json.specs.Token as token
use Rattle.json.specs.Lex.{tokens}
use Rattle.json.specs.Print.{escape, escape_byte, escape_letter, print, ArePrintable, print_from}
use Rattle.json.proofs.Printed.Tokens.{tokens-print}
use Rattle.json.proofs.Printed.Utf8.{IsUtf8-quoted}
use Rattle.serde_json.specs.Data.{string}
use Rattle.serde_json.specs.Read.{read, max_depth}
use Rattle.json.proofs.Printed.Trees.{value-json_tokens}
use Rattle.fish_value.specs.Json.{quoted, reading}
use Rattle.fish_lang.specs.Token.{string_length}

quoted-print : (s : List ℕ) → quoted s ≡ print (token.string s ∷ [])
unfolding quoted print_from
quoted-print s = sym (append-nil _)

printable : (s : List ℕ) → ArePrintable (token.string s ∷ [])
unfolding ArePrintable
printable s = (tt, tt)

quoted-tokens : (s : List ℕ) → tokens (quoted s) ≡ token.string s ∷ []
quoted-tokens s = ap tokens (quoted-print s) ∙ tokens-print (token.string s ∷ []) (printable s)

read-quoted : (s : List ℕ) → read (quoted s) ≡ Some (string s)
read-quoted s = rw (quoted-tokens s, value-json_tokens (json.string s) max_depth [] zero-le)

-- it is read as the text
pub reading-quoted : (s : List ℕ) → IsUtf8 s → reading (quoted s) ≡ Some (string s)
unfolding reading quoted
reading-quoted s h = rw (is_utf8-from_IsUtf8 (quoted s) (IsUtf8-quoted s h), read-quoted s)

and-false : (b : Bool) → (b && false) ≡ false
and-false true = refl
and-false false = refl

-- an escaped byte is passed over
letter-skips : (l : ℕ) (r : List ℕ) → string_length false (92 ∷ l ∷ r) ≡ suc (suc (string_length false r))
letter-skips l r = rw (and-false (l == 34), and-false (l == 92))

-- and so is a byte that is neither a mark nor a backslash
byte-skips : (x : ℕ) (r : List ℕ) → (x == 34) ≡ false → (x == 92) ≡ false
    → string_length false (x ∷ r) ≡ suc (string_length false r)
byte-skips x r mark slash = rw (mark, slash)

digit_char-other : (d : ℕ) → d < 16 → ((digit_char d == 34) ≡ false) × ((digit_char d == 92) ≡ false)
digit_char-other d h = (grind (arith, nat_tests), grind (arith, nat_tests))

hex-skips : (a b : ℕ) (r : List ℕ) → a < 16 → b < 16
    → string_length false (92 ∷ 117 ∷ 48 ∷ 48 ∷ digit_char a ∷ digit_char b ∷ r)
    ≡ suc (suc (suc (suc (suc (suc (string_length false r))))))
hex-skips a b r h k =
    let x = digit_char-other a h in
    let y = digit_char-other b k in
    ap (λ n. suc (suc (suc (suc n)))) (byte-skips (digit_char a) (digit_char b ∷ r) x.0 x.1
    ∙ ap suc (byte-skips (digit_char b) r y.0 y.1))

-- a byte without a short escape
no_letter : (x : ℕ) → nat_lt 0 (escape_letter x) ≡ false → ((x == 34) ≡ false) × ((x == 92) ≡ false)
no_letter x h = (grind (arith, nat_tests), grind (arith, nat_tests))

-- what `escape_byte` writes, by its two tests
written-skips : (x : ℕ) (r : List ℕ) (short low : Bool) → nat_lt 0 (escape_letter x) ≡ short
    → nat_lt x 32 ≡ low
    → string_length false
    (cond short (92 ∷ escape_letter x ∷ [])
    (cond low (92 ∷ 117 ∷ 48 ∷ 48 ∷ digit_char (x / 16) ∷ digit_char (x % 16) ∷ []) (x ∷ []))
    ++ r) ≡ length (cond short (92 ∷ escape_letter x ∷ [])
    (cond low (92 ∷ 117 ∷ 48 ∷ 48 ∷ digit_char (x / 16) ∷ digit_char (x % 16) ∷ []) (x ∷ []))) +
    string_length false r
written-skips x r true low e f = letter-skips (escape_letter x) r ∙ omega arith
written-skips x r false true e f =
    let small : x < 32 = grind (arith, nat_tests) in
    hex-skips (x / 16) (x % 16) r (omega arith) (omega arith) ∙ omega arith
written-skips x r false false e f =
    let other = no_letter x e in
    byte-skips x r other.0 other.1 ∙ omega arith

escape_byte-skips : (x : ℕ) (r : List ℕ) → string_length false (escape_byte x ++ r)
    ≡ length (escape_byte x) + string_length false r
unfolding escape_byte
escape_byte-skips x r = written-skips x r (nat_lt 0 (escape_letter x)) (nat_lt x 32) refl refl

-- its end is the mark that ends it
pub string_length-escape : (s r : List ℕ) → string_length false (escape s ++ 34 ∷ r) ≡ suc (length (escape s))
string_length-escape [] r = refl
string_length-escape (x ∷ s) r =
    rw append_assoc (escape_byte-skips x (escape s ++ 34 ∷ r)
    ∙ omega (arith, string_length-escape s r, length-append (escape_byte x) (escape s)))
