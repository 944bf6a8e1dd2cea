-- How a source is cut into blanks and the texts of its tokens, in the words of a reader. `Token` says the same by the
-- steps of a lexer, and the laws that the two agree are `cuts_the_longest` and `lexes_the_pieces`.
use Rattle.std.specs.Prelude.{ℕ, suc, ◌≡◌, ◌⊎◌, ◌+◌, ◌%◌, ◌==◌, List, [], ◌∷◌, ◌++◌, true, length, reverse, ⊤}
use Rattle.std.specs.Prelude.{if◌then◌else◌}
use Rattle.std.specs.List.{list_all}
use Rattle.fish_lang.specs.Token.{begins_word, is_word_byte, listed, takes_equals, token_of}
use Rattle.fish_lang.specs.declared.token.Placed.{Placed}

-- ---- strings

-- how many backslashes stand at the front
abbrev pub backslashes : List ℕ → ℕ
backslashes [] = 0
backslashes (c ∷ b) = if c == 92 then suc (backslashes b) else 0

-- an odd run of backslashes stands at the end
abbrev pub EndsOdd : List ℕ → Type 0
EndsOdd front = backslashes (reverse front) % 2 ≡ 1

-- an odd run of backslashes precedes each quote
abbrev pub IsUnendedString : List ℕ → Type 0
IsUnendedString s = (front behind : List ℕ) → s ≡ front ++ 34 ∷ behind → EndsOdd front

-- the last byte is the first quote that no odd run of backslashes precedes
pub record IsClosedString (s : List ℕ) : Type 0 where
  pub inside : List ℕ
  pub is : s ≡ inside ++ 34 ∷ []
  pub unended : IsUnendedString inside
  pub ends : ¬ EndsOdd inside

-- ---- pieces

-- a byte that begins a word, with bytes of words after it
abbrev pub IsWord : ℕ → List ℕ → Type 0
IsWord c t = (begins_word c ≡ true) × (list_all is_word_byte t ≡ true)

-- a quote, with the bytes up to the one that ends the string, or up to the end of the source where none does
abbrev pub IsString : ℕ → List ℕ → List ℕ → Type 0
IsString c t rest = (c ≡ 34) × (IsClosedString t ⊎ (IsUnendedString t × (rest ≡ [])))

-- `!=`, `<=` or `>=`
abbrev pub IsSign : ℕ → List ℕ → Type 0
IsSign c t = (takes_equals c ≡ true) × (t ≡ 61 ∷ [])

-- what may stand before a rest: one byte of any kind, a word, a string, or a sign of two bytes
abbrev pub IsPiece : List ℕ → List ℕ → Type 0
IsPiece [] rest = ⊥
IsPiece (c ∷ t) rest = (t ≡ []) ⊎ (IsWord c t ⊎ (IsString c t rest ⊎ IsSign c t))

-- no longer piece stands there
abbrev pub IsLongest : List ℕ → List ℕ → Type 0
IsLongest piece rest = (more behind : List ℕ) → rest ≡ more ++ behind → IsPiece (piece ++ more) behind → more ≡ []

-- ---- the whole

-- texts one after the other
abbrev pub joined : List (List ℕ) → List ℕ
joined [] = []
joined (t ∷ ts) = t ++ joined ts

-- each is the longest piece that stands where it begins
abbrev pub AreLongest : List (List ℕ) → Type 0
AreLongest [] = ⊤
AreLongest (t ∷ ts) = IsPiece t (joined ts) × IsLongest t (joined ts) × AreLongest ts

-- the pieces in order are the source, and each is the longest that can stand there
pub record IsCut (b : List ℕ) (pieces : List (List ℕ)) : Type 0 where
  pub whole : joined pieces ≡ b
  pub longest : AreLongest pieces

-- the tokens of pieces from a position on, each with the position of its first byte; a blank is none
abbrev pub tokens_in : ℕ → List (List ℕ) → List Placed
tokens_in at [] = []
tokens_in at (t ∷ ts) = listed at (token_of t) (tokens_in (at + length t) ts)
