-- The words of a line.
use Rattle.std.specs.Prelude.{ℕ, suc, ◌+◌, ◌==◌, List, [], ◌∷◌, Bool, true, false, take, drop, if◌then◌else◌}
use Rattle.fish_lang.specs.Token.{is_blank, string_length}

-- bytes from the first on that is no blank
abbrev pub unblank : List ℕ → List ℕ
unblank [] = []
unblank (c ∷ b) = if is_blank c then unblank b else c ∷ b

-- there are no bytes, or they begin with `#`
abbrev pub is_comment : List ℕ → Bool
is_comment [] = true
is_comment (c ∷ b) = c == 35

-- the line says nothing: it has blanks alone, or its first other byte is `#`
abbrev pub is_skipped : List ℕ → Bool
is_skipped b = is_comment (unblank b)

-- how many bytes stand before the next blank
abbrev pub word_length : List ℕ → ℕ
word_length [] = 0
word_length (c ∷ b) = if is_blank c then 0 else suc (word_length b)

-- how many bytes the word at the front has: up to the next blank, or to the next one after the string that begins
-- there
unfoldable pub word_size : List ℕ → ℕ
word_size [] = 0
word_size (c ∷ b) =
    if c == 34 then suc (string_length false b + word_length (drop (string_length false b) b)) else word_length (c ∷ b)

-- the first word of a line, or no bytes where there is none
unfoldable pub word_of : List ℕ → List ℕ
word_of b = take (word_size (unblank b)) (unblank b)

-- what follows it
unfoldable pub words_behind : List ℕ → List ℕ
words_behind b = drop (word_size (unblank b)) (unblank b)
