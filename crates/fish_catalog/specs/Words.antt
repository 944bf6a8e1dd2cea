-- A row of the catalogue as 39 words of a log's table.
use Rattle.std.specs.Prelude.{ℕ, ◌+◌, ◌-◌, ◌*◌, ◌/◌, ◌%◌, ◌<◌, ◌≤◌, ◌==◌, zero, suc, List, Bool, true, false, Option, Some, None}
use Rattle.std.specs.Prelude.{All, length, map}
use Rattle.std.specs.List.{range_with_len}
use Rattle.std.proofs.Math.Decide.{dec_lt}
use Rattle.fish_layout.specs.Bytes.{bytes_in, word_at}
use Rattle.fish_layout.specs.Cleared.{choose}
use Rattle.fish_catalog.specs.Rows.{is_active}
use Rattle.fish_catalog.specs.declared.row.CatRow.{CatRow}

-- ---- the third word: two lengths, and whether the row was active as the table was made

-- the bytes of the name: bits 0 to 5
abbrev pub name_size : ℕ → ℕ
name_size w = w % 64

-- the bytes of the definition's text: bits 8 to 15
abbrev pub text_size : ℕ → ℕ
text_size w = w / 256 % 256

-- whether the row was active: bit 16
abbrev pub was_active : ℕ → Bool
was_active w = w / 65536 % 2 == 1

-- a yes as one bit
abbrev pub bit_of : Bool → ℕ
bit_of true = 1
bit_of false = 0

-- ---- what words say

-- the name that the words of a row spell, in words 3 to 6
unfoldable pub name_in : (ℕ → ℕ) → List ℕ
name_in f = bytes_in (map f (range_with_len 3 4)) (name_size (f 2))

-- the text of its definition, in words 7 to 38
unfoldable pub text_in : (ℕ → ℕ) → List ℕ
text_in f = bytes_in (map f (range_with_len 7 32)) (text_size (f 2))

-- ---- the words of a row

-- a boundary, or 0 for none
abbrev pub bound_word : Option ℕ → ℕ
bound_word None = 0
bound_word (Some n) = suc n

-- word i of a row
unfoldable pub row_word : CatRow → ℕ → ℕ
row_word row zero = bound_word row.from
row_word row (suc zero) = bound_word row.to
row_word row (suc (suc zero)) = length row.name + length row.def * 256 + bit_of (is_active row) * 65536
row_word row (suc (suc (suc i))) = choose (dec_lt i 4) (word_at row.name i) (word_at row.def (i - 4))

-- the words of the row have room for its name and text, which are bytes
pub record IsWritable (row : CatRow) : Type 0 where
  pub short_name : length row.name ≤ 32
  pub name : All (λ b. b < 256) row.name
  pub short_text : length row.def ≤ 255
  pub text : All (λ b. b < 256) row.def
