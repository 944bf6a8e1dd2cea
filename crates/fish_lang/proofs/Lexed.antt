-- The tokens of a canonical text: of its words, its strings and its signs.
use Rattle.std.proofs.Common.{◌≡◌, ℕ, List, [], ◌∷◌, ◌++◌, refl, ◌∙◌, ap, arith, length, append_assoc, length-append}
use Rattle.std.specs.Prelude.{Bool, true, false, not, ◌&&◌, ◌==◌, nat_lt, Option, Some, None, is_some, IsUtf8, codes}
use Rattle.std.specs.Char.{is_ascii_digit}
use Rattle.std.specs.List.{list_all}
use Rattle.std.specs.Str.Parse.{starts_with_minus}
use Rattle.std.proofs.lemmas.Bool.Decides.{nat_tests}
use Rattle.std.proofs.lemmas.Str.{is_utf8-from_IsUtf8}
use Rattle.json.specs.Print.{escape}
use Rattle.serde_json.specs.Data.{string}
use Rattle.fish_value.specs.Json.{quoted, reading}
use Rattle.fish_value.specs.Number.{is_number}
use Rattle.fish_lang.specs.Canonical.{op_text}
use Rattle.fish_lang.specs.Token.{token_of, length_behind, is_word_byte, begins_word, plain_word, keyword_of}
use Rattle.fish_lang.specs.Token.{condition_word, literal_word, is_ident}
use Rattle.fish_lang.specs.Token.{is_blank, sign_token}
use Rattle.fish_lang.specs.declared.definition.Op.{Op}
use Rattle.fish_lang.specs.declared.definition.Op.TheVariants.{Eq, Ne, Lt, Le, Gt, Ge}
use Rattle.fish_lang.specs.declared.token.Keyword.{Keyword}
use Rattle.fish_lang.specs.declared.token.Keyword.TheVariants as word
use Rattle.fish_lang.specs.declared.token.Token.{Token}
use Rattle.fish_lang.specs.declared.token.Token.TheVariants as kind
use Rattle.fish_lang.proofs.Strings.{reading-quoted, string_length-escape}
use Rattle.fish_lang.proofs.TokenLemmas.{both}
use Rattle.fish_lang.proofs.Words.{lexed, lexed-token, lexed-blank, lexed-word, EndsWord}

-- a word with a space after
spaced : (c : ℕ) (w rest : List ℕ) (t : Token) → begins_word c ≡ true → list_all is_word_byte w
    ≡ true → token_of (c ∷ w) ≡ Some t → lexed (c ∷ (w ++ 32 ∷ rest)) ≡ t ∷ lexed rest
spaced c w rest t begins all is = lexed-word c w (32 ∷ rest) t begins all refl is
    ∙ ap (λ ts. t ∷ ts) (lexed-blank rest)

pub lexed-take : (rest : List ℕ) → lexed (codes "take " ++ rest) ≡ kind.Keyword word.Take ∷ lexed rest
unfolding token_of keyword_of condition_word literal_word
lexed-take rest = spaced 116 (codes "ake") rest (kind.Keyword word.Take) refl refl refl

-- the word `each` and a blank
pub lexed-each : (rest : List ℕ) → lexed (codes "each " ++ rest) ≡ kind.Keyword word.Each ∷ lexed rest
unfolding token_of keyword_of condition_word literal_word
lexed-each rest = spaced 101 (codes "ach") rest (kind.Keyword word.Each) refl refl refl

pub lexed-bucket : (rest : List ℕ) → lexed (codes "bucket " ++ rest) ≡ kind.Keyword word.Bucket ∷ lexed rest
unfolding token_of keyword_of condition_word literal_word
lexed-bucket rest = spaced 98 (codes "ucket") rest (kind.Keyword word.Bucket) refl refl refl

pub lexed-flag : (rest : List ℕ) → lexed (codes "flag " ++ rest) ≡ kind.Keyword word.Flag ∷ lexed rest
unfolding token_of keyword_of condition_word literal_word
lexed-flag rest = spaced 102 (codes "lag") rest (kind.Keyword word.Flag) refl refl refl

pub lexed-when : (rest : List ℕ) → lexed (codes "when " ++ rest) ≡ kind.Keyword word.When ∷ lexed rest
unfolding token_of keyword_of condition_word literal_word
lexed-when rest = spaced 119 (codes "hen") rest (kind.Keyword word.When) refl refl refl

pub lexed-by : (rest : List ℕ) → lexed (codes " by " ++ rest) ≡ kind.Keyword word.By ∷ lexed rest
unfolding token_of keyword_of condition_word literal_word
lexed-by rest = lexed-blank (codes "by " ++ rest)
    ∙ spaced 98 (codes "y") rest (kind.Keyword word.By) refl refl refl

pub lexed-not : (rest : List ℕ) → lexed (codes "not " ++ rest) ≡ kind.Keyword word.Not ∷ lexed rest
unfolding token_of keyword_of condition_word literal_word
lexed-not rest = spaced 110 (codes "ot") rest (kind.Keyword word.Not) refl refl refl

pub lexed-and : (rest : List ℕ) → lexed (codes " and " ++ rest) ≡ kind.Keyword word.And ∷ lexed rest
unfolding token_of keyword_of condition_word literal_word
lexed-and rest = lexed-blank (codes "and " ++ rest)
    ∙ spaced 97 (codes "nd") rest (kind.Keyword word.And) refl refl refl

pub lexed-or : (rest : List ℕ) → lexed (codes " or " ++ rest) ≡ kind.Keyword word.Or ∷ lexed rest
unfolding token_of keyword_of condition_word literal_word
lexed-or rest = lexed-blank (codes "or " ++ rest)
    ∙ spaced 111 (codes "r") rest (kind.Keyword word.Or) refl refl refl

pub lexed-starts : (rest : List ℕ) → lexed (codes " starts " ++ rest) ≡ kind.Keyword word.Starts ∷ lexed rest
unfolding token_of keyword_of condition_word literal_word
lexed-starts rest = lexed-blank (codes "starts " ++ rest)
    ∙ spaced 115 (codes "tarts") rest (kind.Keyword word.Starts) refl refl refl

pub lexed-exists : (rest : List ℕ) → EndsWord rest → lexed (codes " exists" ++ rest)
    ≡ kind.Keyword word.Exists ∷ lexed rest
unfolding token_of keyword_of condition_word literal_word
lexed-exists rest e = lexed-blank (codes "exists" ++ rest)
    ∙ lexed-word 101 (codes "xists") rest (kind.Keyword word.Exists) refl refl e refl

pub lexed-true : (rest : List ℕ) → EndsWord rest → lexed (codes "true" ++ rest)
    ≡ kind.Keyword word.True ∷ lexed rest
unfolding token_of keyword_of condition_word literal_word
lexed-true rest e = lexed-word 116 (codes "rue") rest (kind.Keyword word.True) refl refl e refl

pub lexed-false : (rest : List ℕ) → EndsWord rest → lexed (codes "false" ++ rest)
    ≡ kind.Keyword word.False ∷ lexed rest
unfolding token_of keyword_of condition_word literal_word
lexed-false rest e = lexed-word 102 (codes "alse") rest (kind.Keyword word.False) refl refl e refl

-- a sign of comparison between spaces
sign : (c : ℕ) (w rest : List ℕ) (t : Token) → length_behind c (w ++ 32 ∷ rest) ≡ length w
    → token_of (c ∷ w) ≡ Some t → lexed (32 ∷ c ∷ (w ++ 32 ∷ rest)) ≡ t ∷ lexed rest
sign c w rest t size is = lexed-blank (c ∷ (w ++ 32 ∷ rest)) ∙ lexed-token c w (32 ∷ rest) t size is
    ∙ ap (λ ts. t ∷ ts) (lexed-blank rest)

pub lexed-op : (o : Op) (rest : List ℕ) → lexed (op_text o ++ rest) ≡ kind.Compare o ∷ lexed rest
unfolding token_of sign_token length_behind
lexed-op Eq rest = sign 61 [] rest (kind.Compare Eq) refl refl
lexed-op Ne rest = sign 33 (61 ∷ []) rest (kind.Compare Ne) refl refl
lexed-op Lt rest = sign 60 [] rest (kind.Compare Lt) refl refl
lexed-op Le rest = sign 60 (61 ∷ []) rest (kind.Compare Le) refl refl
lexed-op Gt rest = sign 62 [] rest (kind.Compare Gt) refl refl
lexed-op Ge rest = sign 62 (61 ∷ []) rest (kind.Compare Ge) refl refl

-- a string
pub string-token : (s : List ℕ) → IsUtf8 s → token_of (34 ∷ (escape s ++ 34 ∷ [])) ≡ Some (kind.Str s)
unfolding token_of quoted
string-token s h =
    let read : reading (34 ∷ (escape s ++ 34 ∷ [])) ≡ Some (string s) = reading-quoted s h in
    rw (read, is_utf8-from_IsUtf8 s h)

string-size : (s rest : List ℕ) → length_behind 34 ((escape s ++ 34 ∷ []) ++ rest)
    ≡ length (escape s ++ 34 ∷ [])
unfolding length_behind
string-size s rest = rw append_assoc (string_length-escape s rest
    ∙ omega (arith, length-append (escape s) (34 ∷ [])))

pub lexed-string : (s rest : List ℕ) → IsUtf8 s → lexed (quoted s ++ rest) ≡ kind.Str s ∷ lexed rest
unfolding quoted
lexed-string s rest h = lexed-token 34 (escape s ++ 34 ∷ []) rest (kind.Str s) (string-size s rest)
    (string-token s h)

-- a word that can be a step
no_keyword : (o : Option Keyword) → not (is_some o) ≡ true → o ≡ None
no_keyword None h = refl
no_keyword (Some k) h = cc

word_byte : (c : ℕ) → is_word_byte c ≡ true → (is_blank c ≡ false) × (starts_with_minus (c ∷ []) ≡ false)
word_byte c h = (grind (arith, nat_tests), grind (arith, nat_tests))

no_digit : (c : ℕ) → not (is_ascii_digit c) ≡ true → (is_ascii_digit c ≡ false) × ((c == 48) ≡ false)
no_digit c h = (grind (arith, nat_tests), grind (arith, nat_tests))

and-false : (b : Bool) → (b && false) ≡ false
and-false true = refl
and-false false = refl

ident-number : (c : ℕ) (w : List ℕ) → is_word_byte c ≡ true → not (is_ascii_digit c) ≡ true
    → is_number (c ∷ w) ≡ false
ident-number c w word digit =
    let minus = (word_byte c word).1 in
    let no = no_digit c digit in
    rw (
      minus,
      no.0,
      no.1,
      and-false (length (c ∷ w) == 1),
      and-false
          (nat_lt 0 (length (c ∷ w)) && not false),
    )

ident-token : (c : ℕ) (w : List ℕ) → is_ident (c ∷ w) ≡ true → is_word_byte c ≡ true
    → not (is_ascii_digit c) ≡ true → keyword_of (c ∷ w) ≡ None → token_of (c ∷ w) ≡ Some (kind.Ident (c ∷ w))
unfolding token_of plain_word
ident-token c w ident word digit key =
    rw ((word_byte c word).0, word, key, ident-number c w word digit, ident)

pub lexed-ident : (s rest : List ℕ) → is_ident s ≡ true → EndsWord rest → lexed (s ++ rest)
    ≡ kind.Ident s ∷ lexed rest
unfolding is_ident
lexed-ident [] rest h e = cc
lexed-ident (c ∷ w) rest h e =
    let a = both (nat_lt 0 (length (c ∷ w)) && list_all is_word_byte (c ∷ w) && not
    (is_ascii_digit c)) (not (is_some (keyword_of (c ∷ w)))) h in
    let b = both (nat_lt 0 (length (c ∷ w)) && list_all is_word_byte (c ∷ w)) (not (is_ascii_digit c)) a.0 in
    let all = both (nat_lt 0 (length (c ∷ w))) (list_all is_word_byte (c ∷ w)) b.0 in
    let words = both (is_word_byte c) (list_all is_word_byte w) all.1 in
    lexed-word c w rest (kind.Ident (c ∷ w)) (rw words.0) words.1 e
    (ident-token c w h words.0 b.1 (no_keyword (keyword_of (c ∷ w)) a.1))
