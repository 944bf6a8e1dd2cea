-- The body of a slot: a commit as bytes.
use Rattle.std.specs.Prelude.{ℕ, ◌+◌, ◌-◌, ◌*◌, ◌^◌, List, [], ◌∷◌, ◌++◌, Option, Some, None, length, replicate}
use Rattle.std.specs.List.{flat_map}
use Rattle.byteorder.specs.Endian.{little_bytes, little_number}
use Rattle.fish_catalog.specs.declared.commit.Commit.{Commit}
use Rattle.fish_catalog.specs.declared.row.CatRow.{CatRow}

-- a number as the eight bytes of a word, lowest first
unfoldable pub word : ℕ → List ℕ
word n = little_bytes 8 n

-- the number in the first eight bytes, lowest first
unfoldable pub number : List ℕ → ℕ
number b = little_number 8 b

-- so many zero bytes
unfoldable pub zeros : ℕ → List ℕ
zeros n = replicate n 0

-- bytes with zero bytes after them, so many together
abbrev pub padded : ℕ → List ℕ → List ℕ
padded n b = b ++ zeros (n - length b)

-- a boundary as a word: all bits set for none
abbrev pub boundary_word : Option ℕ → ℕ
boundary_word None = 2 ^ 64 - 1
boundary_word (Some n) = n

-- the two boundaries of a row
abbrev pub boundary_words : CatRow → List ℕ
boundary_words row = boundary_word row.from ∷ boundary_word row.to ∷ []

-- the 320 bytes of a row: its boundaries, the lengths of its name and of its text, the name up to byte 63, and the text
unfoldable pub row_bytes : CatRow → List ℕ
row_bytes row =
    flat_map word (boundary_words row)
    ++ (length row.name ∷ length row.def ∷ (padded 46 row.name ++ padded 256 row.def))

-- the letters `FISHST0` and the digit of a format, as a word
abbrev pub sign_of : ℕ → ℕ
sign_of format = 3472368029375088966 + format * 2 ^ 56

-- the first eight words: the letters `FISHST01` or `FISHST02`, the turn, pages, bucket bits, count, lines, the number
-- of rows, and 0
abbrev pub head_words : Commit → List ℕ
head_words c =
    sign_of c.format ∷ c.turn ∷ c.pages ∷ c.bucket_bits ∷ c.count ∷ c.lines ∷ length c.rows ∷ 0 ∷ []

-- how many zero bytes come after the rows: those of the rows that 256 leave, and the rest
abbrev pub bytes_behind : ℕ → ℕ
bytes_behind rows = 320 * (256 - rows) + 4032

-- the 86,016 bytes of a slot's body
unfoldable pub slot_bytes : Commit → List ℕ
slot_bytes c = flat_map word (head_words c) ++ (flat_map row_bytes c.rows ++ zeros (bytes_behind (length c.rows)))
