-- Where the values and the payload of a record stand, and how many bytes they have.
use Rattle.std.proofs.Common.{◌≡◌, ℕ, suc, ◌+◌, ◌-◌, ◌*◌, ◌<◌, ◌≤◌}
use Rattle.std.proofs.Common.{List, [], ◌∷◌, ◌++◌, length, get_or, take, drop, replicate}
use Rattle.std.proofs.Common.{refl, sym, ap, ◌∙◌, subst, arith, length-append, length-drop}
use Rattle.std.proofs.lemmas.List.{take_all}
use Rattle.std.proofs.Math.Seq.{drop-append-add, drop-append_seam}
use Rattle.fish_layout.specs.Body.{IsBody, body_header, body_lines, body_words, key_words, values_of, words_after_head}
use Rattle.fish_layout.specs.Bytes.{bytes_in, words_for, words_of_bytes}
use Rattle.fish_layout.specs.Cleared.{entry_at}
use Rattle.fish_layout.specs.Entry.{value_offset, value_size}
use Rattle.fish_layout.specs.within.Outline.{IsOutline}
use Rattle.fish_layout.specs.Values.{value_bytes}
use Rattle.fish_layout.specs.declared.outline.Outline.{Outline}
use Rattle.fish_layout.specs.declared.parts.BodyParts.{BodyParts}
use Rattle.fish_layout.specs.declared.parts.KeyPart.{KeyPart}
use Rattle.fish_layout.proofs.Bytes.{bytes_back}
use Rattle.fish_layout.proofs.Entries.{some_element, values_of-more}
use Rattle.fish_layout.proofs.KeyWords.{body_key}
use Rattle.fish_layout.proofs.Links.{after_keys, body_parted}
use Rattle.fish_layout.proofs.Sizes.{length-body_words, length-key_words, length-words_after_head, length-words_of_bytes}
use Rattle.fish_layout.proofs.Utf8.{bytes_text, bytes_values}

-- the padding of a record
abbrev padding : BodyParts → List ℕ
padding p = replicate (body_lines p * 4 - (1 + length (words_after_head p))) 0

-- after the key entries stand the values
pub drop_keys : (p : BodyParts) →
    drop (entry_at (length p.keys)) (body_words p) ≡
    words_of_bytes (values_of p.keys) ++ (words_of_bytes p.payload ++ padding p)
drop_keys p =
    let entries = key_words p.number 0 0 p.keys in
    let behind : entry_at (length p.keys) ≡ suc (length entries) =
    omega (arith, length-key_words p.number 0 0 p.keys) in
    ap (drop (entry_at (length p.keys))) (body_parted p)
    ∙ ap (λ n. drop n (body_header p ∷ (entries ++ after_keys p))) behind
    ∙ drop-append_seam entries (after_keys p)

-- so many words stand before the payload
abbrev pub payload_place : BodyParts → ℕ
payload_place p = entry_at (length p.keys) + words_for (length (values_of p.keys))

-- after the values stands the payload
pub drop_values : (p : BodyParts) → drop (payload_place p) (body_words p) ≡ words_of_bytes p.payload ++ padding p
drop_values p =
    let entries = key_words p.number 0 0 p.keys in
    let values = words_of_bytes (values_of p.keys) in
    let behind : payload_place p ≡ suc (length entries + length values) =
    omega (arith, length-key_words p.number 0 0 p.keys, length-words_of_bytes (values_of p.keys)) in
    ap (drop (payload_place p)) (body_parted p)
    ∙ ap (λ n. drop n (body_header p ∷ (entries ++ after_keys p))) behind
    ∙ drop-append-add entries (after_keys p) (length values)
    ∙ drop-append_seam values (words_of_bytes p.payload ++ padding p)

-- the bytes of the values, from a record's words
pub body_values : {p : BodyParts} {ws : List ℕ} → IsBody p ws →
    bytes_in (drop (entry_at (length p.keys)) ws) (length (values_of p.keys)) ≡ values_of p.keys
body_values {p} {ws} h =
    ap (λ b. bytes_in (drop (entry_at (length p.keys)) b) (length (values_of p.keys))) h.is
    ∙ ap (λ b. bytes_in b (length (values_of p.keys))) (drop_keys p)
    ∙ bytes_back (values_of p.keys) (words_of_bytes p.payload ++ padding p) (bytes_values 0 p.keys h.proper.keys)

-- the bytes of the payload, from a record's words
pub body_payload : {p : BodyParts} {ws : List ℕ} → IsBody p ws →
    bytes_in (drop (payload_place p) ws) (length p.payload) ≡ p.payload
body_payload {p} {ws} h =
    ap (λ b. bytes_in (drop (payload_place p) b) (length p.payload)) h.is
    ∙ ap (λ b. bytes_in b (length p.payload)) (drop_values p)
    ∙ bytes_back p.payload (padding p) (bytes_text p.payload h.proper.text)

-- a record has four words a line
pub body_length : {p : BodyParts} {ws : List ℕ} → IsBody p ws → length ws ≡ body_lines p * 4
body_length {p} {ws} h = ap length h.is ∙ length-body_words p

-- all of it stands within the words
pub body_room : {p : BodyParts} {ws : List ℕ} → IsBody p ws → payload_place p + words_for (length p.payload) ≤ length ws
body_room {p} {ws} h = omega (arith, ap length h.is, length-body_words p, length-words_after_head p)

-- the last key entry says where the values end
last_key : {p : BodyParts} {ws : List ℕ} → IsBody p ws → (k : KeyPart) (n : ℕ) → n + 1 ≡ length p.keys →
    k ≡ get_or p.keys n k →
    value_offset (get_or ws (3 * (n + 1)) 0) + value_size (get_or ws (3 * (n + 1)) 0) ≡ length (values_of p.keys)
last_key {p} {ws} h k n last is =
    let says = body_key n k h (omega arith) is in
    let position : 3 * (n + 1) ≡ entry_at n + 2 = omega arith in
    let word = ap (λ i. get_or ws i 0) position in
    let whole : values_of p.keys ≡ values_of (take n p.keys) ++ value_bytes k.value =
    ap values_of (sym (take_all (n + 1) p.keys (omega arith))) ∙ values_of-more p.keys n k (omega arith) is in
    omega (
      arith,
      ap length whole,
      length-append (values_of (take n p.keys)) (value_bytes k.value),
      says.offset,
      says.size,
      ap value_offset word,
      ap value_size word,
    )

-- the bytes of the values, by the last key entry
pub body_values_size : {p : BodyParts} {ws : List ℕ} → IsBody p ws → (n : ℕ) → n ≡ length p.keys → 0 < n →
    value_offset (get_or ws (3 * n) 0) + value_size (get_or ws (3 * n) 0) ≡ length (values_of p.keys)
body_values_size {p} {ws} h n size some =
    let key = some_element p.keys (n - 1) (omega arith) in
    let back : 3 * (n - 1 + 1) ≡ 3 * n = omega arith in
    subst (λ i. value_offset (get_or ws i 0) + value_size (get_or ws i 0) ≡ length (values_of p.keys)) back
    (last_key h key.0 (n - 1) (omega arith) key.1)

-- no keys have no values
pub no_values : (ks : List KeyPart) → 0 ≡ length ks → length (values_of ks) ≡ 0
no_values [] h = refl
no_values (k ∷ ks) h = absurd (omega arith)

-- the words from a place on, as a range of a slice gives them
pub range_from : (ws : List ℕ) (n : ℕ) → take (length ws - n) (drop n ws) ≡ drop n ws
range_from ws n = take_all (length ws - n) (drop n ws) (omega (arith, length-drop n ws))

-- the payload, as the outline places it
pub outline_payload : {p : BodyParts} {ws : List ℕ} {o : Outline} → IsBody p ws → IsOutline p o → (n : ℕ) →
    n ≡ 1 + 3 * o.keys + words_for o.values →
    bytes_in (take (length ws - n) (drop n ws)) o.payload ≡ p.payload
outline_payload {p} {ws} {o} h is n at =
    let position : n ≡ payload_place p = omega (arith, is.keys, is.values) in
    ap (λ b. bytes_in b o.payload) (range_from ws n)
    ∙ ap (λ m. bytes_in (drop m ws) o.payload) position
    ∙ ap (bytes_in (drop (payload_place p) ws)) is.payload
    ∙ body_payload h

-- the values, as the outline places them
pub outline_values : {p : BodyParts} {ws : List ℕ} {o : Outline} → IsBody p ws → IsOutline p o → (n : ℕ) →
    n ≡ 1 + 3 * o.keys →
    bytes_in (take (length ws - n) (drop n ws)) o.values ≡ values_of p.keys
outline_values {p} {ws} {o} h is n at =
    let position : n ≡ entry_at (length p.keys) = omega (arith, is.keys) in
    ap (λ b. bytes_in b o.values) (range_from ws n)
    ∙ ap (λ m. bytes_in (drop m ws) o.values) position
    ∙ ap (bytes_in (drop (entry_at (length p.keys)) ws)) is.values
    ∙ body_values h
