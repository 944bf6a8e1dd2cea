-- The tokens of a text.
use Rattle.std.specs.Prelude.{ℕ, zero, suc, ◌+◌, ◌&&◌, ◌||◌, ◌==◌, nat_lt, List, [], ◌∷◌, Bool, false, not, Option}
use Rattle.std.specs.Prelude.{Some, None, option_and_then, is_some, length, take, drop, slice_index, codes}
use Rattle.std.specs.Prelude.{if◌then◌else◌}
use Rattle.std.specs.Char.{is_ascii_alphanumeric, is_ascii_digit}
use Rattle.std.specs.List.{list_all}
use Rattle.std.specs.Str.{bytes_eq, is_utf8}
use Rattle.std.specs.Str.Parse.{starts_with_minus}
use Rattle.serde_json.specs.Find.{as_str}
use Rattle.fish_value.specs.Json.{reading}
use Rattle.fish_value.specs.Number.{int_of, is_number}
use Rattle.fish_lang.specs.declared.definition.Op.TheVariants as op
use Rattle.fish_lang.specs.declared.token.Keyword.{Keyword}
use Rattle.fish_lang.specs.declared.token.Keyword.TheVariants as word
use Rattle.fish_lang.specs.declared.token.Token.{Token}
use Rattle.fish_lang.specs.declared.token.Token.TheVariants as kind
use Rattle.fish_lang.specs.declared.token.Placed.{Placed}

-- spaces and tabs separate tokens
abbrev pub is_blank : ℕ → Bool
is_blank c = (c == 32) || (c == 9)

-- the bytes of words: `A-Z a-z 0-9 _ $`
abbrev pub is_word_byte : ℕ → Bool
is_word_byte c = is_ascii_alphanumeric c || (c == 95) || (c == 36)

-- a word begins with one of them, or with a `-`
abbrev pub begins_word : ℕ → Bool
begins_word c = is_word_byte c || (c == 45)

-- how many word bytes stand at the front
abbrev pub run_length : List ℕ → ℕ
run_length [] = 0
run_length (c ∷ b) = if is_word_byte c then suc (run_length b) else 0

-- how many bytes there are to the next `"` that no odd run of backslashes precedes, and with it; all
-- of them where there is none. An odd run ends right in front where `odd` says so.
abbrev pub string_length : Bool → List ℕ → ℕ
string_length odd [] = 0
string_length odd (c ∷ b) = if (c == 34) && not odd then 1 else suc (string_length ((c == 92) && not odd) b)

-- `!`, `<` and `>` take a `=` after them in
abbrev pub takes_equals : ℕ → Bool
takes_equals c = (c == 33) || (c == 60) || (c == 62)

-- how many bytes the next token has, or a blank, after the byte at the front
unfoldable pub length_behind : ℕ → List ℕ → ℕ
length_behind c b =
    if begins_word c then run_length b else (
    if c == 34 then string_length false b else (
    if takes_equals c && (slice_index b 0 == 61) then 1 else 0))

-- the literal that a word is, or the word that is kept for later
unfoldable pub literal_word : List ℕ → Option Keyword
literal_word w =
    if bytes_eq w (codes "true") then Some word.True else (
    if bytes_eq w (codes "false") then Some word.False else (
    if bytes_eq w (codes "each") then Some word.Each else None))

-- the same, or the word of a condition
unfoldable pub condition_word : List ℕ → Option Keyword
condition_word w =
    if bytes_eq w (codes "not") then Some word.Not else (
    if bytes_eq w (codes "and") then Some word.And else (
    if bytes_eq w (codes "or") then Some word.Or else (
    if bytes_eq w (codes "exists") then Some word.Exists else (
    if bytes_eq w (codes "starts") then Some word.Starts else literal_word w))))

-- the word that the language keeps and that a word is
unfoldable pub keyword_of : List ℕ → Option Keyword
keyword_of w =
    if bytes_eq w (codes "take") then Some word.Take else (
    if bytes_eq w (codes "bucket") then Some word.Bucket else (
    if bytes_eq w (codes "flag") then Some word.Flag else (
    if bytes_eq w (codes "by") then Some word.By else (
    if bytes_eq w (codes "when") then Some word.When else condition_word w))))

-- a word that can be a step: it begins with no digit, and is no keyword
unfoldable pub is_ident : List ℕ → Bool
is_ident w =
    nat_lt 0 (length w) && list_all is_word_byte w && not (is_ascii_digit (slice_index w 0))
    && not (is_some (keyword_of w))

-- a word that is no keyword
unfoldable pub plain_word : List ℕ → Token
plain_word w =
    if is_number w then kind.Number (starts_with_minus w) (int_of w) else (
    if is_ident w then kind.Ident w else kind.Other)

abbrev pub word_or_keyword : Option Keyword → List ℕ → Token
word_or_keyword (Some k) w = kind.Keyword k
word_or_keyword None w = plain_word w

-- a string by its reading, which is a text
abbrev pub string_token : Option (List ℕ) → Token
string_token (Some s) = if is_utf8 s then kind.Str s else kind.Other
string_token None = kind.Other

-- a sign, or a byte that is none
unfoldable pub sign_token : List ℕ → Token
sign_token t =
    if bytes_eq t (codes "=") then kind.Compare op.Eq else (
    if bytes_eq t (codes "!=") then kind.Compare op.Ne else (
    if bytes_eq t (codes "<") then kind.Compare op.Lt else (
    if bytes_eq t (codes "<=") then kind.Compare op.Le else (
    if bytes_eq t (codes ">") then kind.Compare op.Gt else (
    if bytes_eq t (codes ">=") then kind.Compare op.Ge else (
    if bytes_eq t (codes "(") then kind.Open else (
    if bytes_eq t (codes ")") then kind.Close else (
    if bytes_eq t (codes ".") then kind.Dot else kind.Other))))))))

-- the token that these bytes are: none where they are a blank
unfoldable pub token_of : List ℕ → Option Token
token_of t =
    if is_blank (slice_index t 0) then None else (
    if begins_word (slice_index t 0) then Some (word_or_keyword (keyword_of t) t) else (
    if slice_index t 0 == 34 then Some (string_token (option_and_then as_str (reading t))) else
    Some (sign_token t)))

-- a token before those after it
abbrev pub listed : ℕ → Option Token → List Placed → List Placed
listed at None behind = behind
listed at (Some t) behind = record { token = t; at = at } ∷ behind

-- the tokens of a text that begins at a position; `most` is no less than its length
abbrev pub tokens_from : (most : ℕ) → ℕ → List ℕ → List Placed
tokens_from zero at b = []
tokens_from (suc most) at [] = []
tokens_from (suc most) at (c ∷ b) =
    listed at (token_of (c ∷ take (length_behind c b) b))
    (tokens_from most (at + suc (length_behind c b)) (drop (length_behind c b) b))

-- the tokens of a source
unfoldable pub tokens : List ℕ → List Placed
tokens b = tokens_from (length b) 0 b
