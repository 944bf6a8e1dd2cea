-- The words of a record, from its parts.
use Rattle.std.specs.Prelude.{ℕ, ◌≡◌, ◌+◌, ◌-◌, ◌*◌, ◌/◌, ◌^◌, ◌<◌, ◌≤◌}
use Rattle.std.specs.Prelude.{List, [], ◌∷◌, ◌++◌, length, replicate, IsTrue, IsUtf8, ⊤}
use Rattle.std.specs.List.{flat_map}
use Rattle.fish_value.specs.Number.{fits_i64}
use Rattle.fish_value.specs.declared.value.Value.{Value}
use Rattle.fish_value.specs.declared.value.Value.TheVariants as kind
use Rattle.fish_layout.specs.Bytes.{words_of_bytes}
use Rattle.fish_layout.specs.Header.{form_code, header_word}
use Rattle.fish_layout.specs.Values.{kind_code, value_bytes}
use Rattle.fish_layout.specs.declared.parts.BodyHead.{BodyHead}
use Rattle.fish_layout.specs.declared.parts.BodyParts.{BodyParts}
use Rattle.fish_layout.specs.declared.parts.KeyPart.{KeyPart}

-- ---- key entries

-- the second word of a key entry: the record's number in bits 0 to 27, the definition's id in 28 to 35, the
-- entry's position in 36 to 44
abbrev pub entry_word : ℕ → ℕ → ℕ → ℕ
entry_word number id position = number + id * 2 ^ 28 + position * 2 ^ 36

-- the third word: the value's kind in bits 0 and 1, the length of its bytes in 2 to 10, their offset in 11 to 28
abbrev pub packed_value : ℕ → ℕ → ℕ → ℕ
packed_value code size offset = code + size * 2 ^ 2 + offset * 2 ^ 11

-- the same of a value
abbrev pub value_word : Value → ℕ → ℕ
value_word v offset = packed_value (kind_code v) (length (value_bytes v)) offset

-- the words of key entries from a position on, whose values' bytes begin at an offset
abbrev pub key_words : ℕ → ℕ → ℕ → List KeyPart → List ℕ
key_words number position offset [] = []
key_words number position offset (k ∷ ks) =
    k.prev ∷ entry_word number k.id position ∷ value_word k.value offset
    ∷ key_words number (position + 1) (offset + length (value_bytes k.value)) ks

-- the values' bytes, one after the other
abbrev pub values_of : List KeyPart → List ℕ
values_of ks = flat_map (λ k. value_bytes k.value) ks

-- ---- the whole

-- the parts of a record with this head, these key entries and this payload
abbrev pub parts_of : BodyHead → List KeyPart → List ℕ → BodyParts
parts_of head keys payload =
    record {
      form = head.form;
      lane = head.lane;
      version = head.version;
      number = head.number;
      keys = keys;
      payload = payload;
    }

-- the words after the header, without the padding: the key entries, the values and the payload
abbrev pub words_after_head : BodyParts → List ℕ
words_after_head p = key_words p.number 0 0 p.keys ++ words_of_bytes (values_of p.keys) ++ words_of_bytes p.payload

-- the least number of lines of four words that hold all words
abbrev pub body_lines : BodyParts → ℕ
body_lines p = (1 + length (words_after_head p) + 3) / 4

-- the header word
abbrev pub body_header : BodyParts → ℕ
body_header p = header_word (body_lines p) (form_code p.form) (length p.keys) p.lane p.version (length p.payload)

-- the words of a record: its header, the words after it, and zeros up to a whole line
unfoldable pub body_words : BodyParts → List ℕ
body_words p = body_header p ∷ words_after_head p ++ replicate (body_lines p * 4 - (1 + length (words_after_head p))) 0

-- ---- which parts a record may have

-- a whole number is one of 64 bits, a text has at most 256 bytes, which are UTF-8
abbrev pub IsProperValue : Value → Type 0
IsProperValue (kind.Bool b) = ⊤
IsProperValue (kind.Int n) = IsTrue (fits_i64 n)
IsProperValue (kind.Text s) = (length s ≤ 256) × IsUtf8 s

-- no entry has the id and the value of this one
abbrev pub IsApart : KeyPart → List KeyPart → Type 0
IsApart k [] = ⊤
IsApart k (x ∷ ks) = (x.id ≡ k.id → x.value ≡ k.value → ⊥) × IsApart k ks

-- entries whose ids are at least this one, below 256, and don't descend, with proper values, of which those of one id differ
abbrev pub AreProperKeys : ℕ → List KeyPart → Type 0
AreProperKeys least [] = ⊤
AreProperKeys least (k ∷ ks) = (least ≤ k.id) × (k.id < 256) × IsProperValue k.value
    × AreProperKeys k.id ks × IsApart k ks

-- the parts are within their limits
pub record IsProper (p : BodyParts) : Type 0 where
  pub some_lane : 1 ≤ p.lane
  pub lane : p.lane ≤ 16
  pub version : p.version ≤ 512
  pub number : p.number < 2 ^ 28
  pub few : length p.keys ≤ 256
  pub keys : AreProperKeys 0 p.keys
  pub short : length p.payload ≤ 524288
  pub text : IsUtf8 p.payload

-- the words are a record with these parts
pub record IsBody (p : BodyParts) (words : List ℕ) : Type 0 where
  pub proper : IsProper p
  pub is : words ≡ body_words p
