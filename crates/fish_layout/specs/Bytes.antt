-- Bytes as words.
use Rattle.std.specs.Prelude.{ℕ, ◌+◌, ◌*◌, ◌/◌, List, length, take, drop, map}
use Rattle.std.specs.Int.{from_le_bytes, to_le_bytes}
use Rattle.std.specs.Int.Width.{w64}
use Rattle.std.specs.List.{flat_map, range_with_len}

-- how many words hold so many bytes
abbrev pub words_for : ℕ → ℕ
words_for n = (n + 7) / 8

-- the word at a position: eight bytes, low byte first, zero past the end
abbrev pub word_at : List ℕ → ℕ → ℕ
word_at b i = from_le_bytes w64 (take 8 (drop (8 * i) b))

-- bytes as words, the last one padded with zero bytes
unfoldable pub words_of_bytes : List ℕ → List ℕ
words_of_bytes b = map (word_at b) (range_with_len 0 (words_for (length b)))

-- so many bytes from the front of words, low byte first
abbrev pub bytes_in : List ℕ → ℕ → List ℕ
bytes_in words n = take n (flat_map (to_le_bytes w64) words)
