-- What an operation on the definitions is as a word.
use Rattle.std.specs.Prelude.{ℕ, ◌+◌, ◌<◌, ◌%◌}

-- the row with an id is registered
abbrev pub register_word : ℕ → ℕ
register_word id = 256 + id

-- the row with an id is ended
abbrev pub end_word : ℕ → ℕ
end_word id = 512 + id

-- the word registers a row, and does not end one
abbrev pub Registers : ℕ → Type 0
Registers x = x < 512

-- the id in a word that ends a row
abbrev pub ended_id : ℕ → ℕ
ended_id x = x % 256
