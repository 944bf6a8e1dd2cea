-- How many words the parts of a record take.
use Rattle.std.proofs.Common.{◌≡◌, ℕ, ◌+◌, ◌-◌, ◌*◌, ◌≤◌}
use Rattle.std.proofs.Common.{List, [], ◌∷◌, ◌++◌, length, replicate, refl, arith, length-append}
use Rattle.std.proofs.lemmas.List.{length-replicate}
use Rattle.std.proofs.lemmas.List.FromFn.{length-map-range_with_len}
use Rattle.fish_value.specs.declared.value.Value.{Value}
use Rattle.fish_value.specs.declared.value.Value.TheVariants as kind
use Rattle.fish_layout.specs.Body.{AreProperKeys, IsProper, IsProperValue, body_lines}
use Rattle.fish_layout.specs.Body.{body_words, key_words, values_of, words_after_head}
use Rattle.fish_layout.specs.Bytes.{word_at, words_for, words_of_bytes}
use Rattle.fish_layout.specs.Values.{value_bytes}
use Rattle.fish_layout.specs.declared.parts.BodyParts.{BodyParts}
use Rattle.fish_layout.specs.declared.parts.KeyPart.{KeyPart}

-- a key entry has three words
pub length-key_words : (number position offset : ℕ) (ks : List KeyPart) →
    length (key_words number position offset ks) ≡ 3 * length ks
length-key_words number position offset [] = refl
length-key_words number position offset (k ∷ ks) =
    omega (arith, length-key_words number (position + 1) (offset + length (value_bytes k.value)) ks)

-- eight bytes a word
pub length-words_of_bytes : (b : List ℕ) → length (words_of_bytes b) ≡ words_for (length b)
unfolding words_of_bytes
length-words_of_bytes b = length-map-range_with_len (word_at b) 0 (words_for (length b))

-- a proper value has at most 256 bytes
pub few_bytes : (v : Value) → IsProperValue v → length (value_bytes v) ≤ 256
few_bytes (kind.Bool b) h = omega arith
few_bytes (kind.Int n) h = omega arith
few_bytes (kind.Text s) h = h.0

-- the values of proper keys have at most 256 bytes each
pub few_value_bytes : (least : ℕ) (ks : List KeyPart) → AreProperKeys least ks → length (values_of ks) ≤ 256 * length ks
few_value_bytes least [] keys = omega arith
few_value_bytes least (k ∷ ks) keys =
    omega (
      arith,
      length-append (value_bytes k.value) (values_of ks),
      few_bytes k.value keys.2,
      few_value_bytes k.id ks keys.3,
    )

-- how many words come after the header, without the padding
pub length-words_after_head : (p : BodyParts) →
    length (words_after_head p) ≡
    3 * length p.keys + words_for (length (values_of p.keys)) + words_for (length p.payload)
length-words_after_head p =
    let keys = key_words p.number 0 0 p.keys in
    let values = words_of_bytes (values_of p.keys) in
    omega (
      arith,
      length-append (keys ++ values) (words_of_bytes p.payload),
      length-append keys values,
      length-key_words p.number 0 0 p.keys,
      length-words_of_bytes (values_of p.keys),
      length-words_of_bytes p.payload,
    )

-- a record has at most 256 keys
pub few_keys_of : {p : BodyParts} → IsProper p → length p.keys ≤ 256
few_keys_of h = h.few

-- a record has a line
pub some_lines : (p : BodyParts) → 1 ≤ body_lines p
some_lines p = omega arith

-- a record has at most 18,625 lines
pub few_lines : (p : BodyParts) → IsProper p → body_lines p ≤ 18625
few_lines p h =
    omega (arith, length-words_after_head p, few_keys_of h, few_value_bytes 0 p.keys h.keys, h.short)

-- all words of the key entries stand within the lines
pub roomy : (p : BodyParts) → 1 + 3 * length p.keys ≤ body_lines p * 4
roomy p = omega (arith, length-words_after_head p)

-- a record fills its lines
pub length-body_words : (p : BodyParts) → length (body_words p) ≡ body_lines p * 4
unfolding body_words
length-body_words p =
    let padding = body_lines p * 4 - (1 + length (words_after_head p)) in
    omega (arith, length-append (words_after_head p) (replicate padding 0), length-replicate {A = ℕ} padding 0)
