-- Which value a key entry has, by the words of its record. What private clauses need of it.
use Rattle.std.specs.Int.Width.{w64}
use Rattle.std.specs.Int.{to_le_bytes}
use Rattle.std.specs.Prelude.{ℕ, ◌≡◌, ◌≢◌, ◌+◌, ◌*◌, ◌/◌, ◌%◌, ◌^◌, ◌<◌, ◌≤◌, List, slice_index}
use Rattle.fish_chain.specs.Values.{record_words_at}
use Rattle.fish_layout.specs.Bucket.{value_in}
use Rattle.fish_layout.specs.Cleared.{entry_at}
use Rattle.fish_layout.specs.Entry.{value_kind}
use Rattle.fish_layout.specs.Header.{keys_of}
use Rattle.fish_rule.specs.Views.{Among}
use Rattle.fish_rule.specs.World.{World}
use Rattle.fish_rule.specs.declared.view.Found.{Found}
use Rattle.fish_rule.specs.declared.view.Key.{Key}
use Rattle.fish_rule.specs.declared.view.Kind.TheVariants.{Mark}
use Rattle.fish_rule.specs.declared.view.View.{View}

-- ---- on the way

-- the words of key entry c say this kind and these bytes
pub record SaysBytes (n c kind : ℕ) (bytes : List ℕ) (k : Key) (w : World) : Type 0 where
  pub kind_is : value_kind (record_words_at n w (entry_at c + 2)) ≡ kind
  pub bytes_are : value_in (record_words_at n w) c ≡ bytes

-- word i of the record with number n is this one
abbrev pub IsWordIn : ℕ → ℕ → ℕ → Key → World → Type 0
IsWordIn n i x k w = record_words_at n w i ≡ x

-- byte o of words, from the first one on, low byte first
abbrev pub byte_at : (ℕ → ℕ) → ℕ → ℕ
byte_at e o = e (o / 8) / 256 ^ (o % 8) % 256

-- from a byte of the record with number n on, so many bytes are these
abbrev pub AreBytesIn : ℕ → ℕ → List ℕ → ℕ → Key → World → Type 0
AreBytesIn n first bytes some k w =
    (j : ℕ) → j < some → byte_at (record_words_at n w) (first + j) ≡ slice_index bytes j

-- the bytes from one on up to another are those of a word, each at its place after the record's first byte
abbrev pub AreBytesOf : ℕ → ℕ → List ℕ → ℕ → ℕ → Type 0
AreBytesOf word first bytes from to =
    (j : ℕ) → from ≤ j → j < to → slice_index (to_le_bytes w64 word) ((first + j) % 8) ≡ slice_index bytes j

-- the region of a record at a line was found, its header read, and so many bytes from one on lie after its key entries
-- and within the region
pub record HasBytes (v : View) (n line first size : ℕ) : Type 0 where
  pub found : Found
  pub among : Among found v.learned.found
  pub number_is : found.number ≡ n
  pub line_is : found.line ≡ line
  pub words : found.kind ≢ Mark
  pub header : ℕ
  pub read : Among (record { place = line * 4; value = header }) v.learned.known
  pub behind : 24 * keys_of header + 8 ≤ first
  pub within : first + size ≤ found.lines * 32
