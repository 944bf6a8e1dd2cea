-- The bucket of a key entry, from its words, is that of its key's hash.
use Rattle.std.proofs.Common.{◌≡◌, ℕ, zero, suc, ◌+◌, ◌-◌, ◌/◌, ◌%◌, ◌^◌, ◌<◌, ◌≤◌}
use Rattle.std.proofs.Common.{Some, List, [], ◌∷◌, ◌++◌, length, get_or, take, drop}
use Rattle.std.proofs.Common.{refl, sym, ap, ◌∙◌, arith, length-drop}
use Rattle.std.specs.Prelude.{map}
use Rattle.std.specs.Int.{to_le_bytes}
use Rattle.std.specs.Int.Width.{w16, w64}
use Rattle.std.specs.List.{flat_map, range_with_len, slice_get}
use Rattle.std.proofs.lemmas.List.{ext_get_or, get_or-drop, get_or-take, length-take-le}
use Rattle.std.proofs.lemmas.List.Concat.{get_or-flat_map}
use Rattle.std.proofs.lemmas.List.FromFn.{get_or-map-range_with_len, length-map-range_with_len}
use Rattle.std.proofs.lemmas.Option.{get_or_from_slice_get, same_Some, slice_get_within}
use Rattle.fish_layout.specs.Body.{IsBody, body_words, values_of}
use Rattle.fish_layout.specs.Bucket.{bucket_of, byte_behind, value_in}
use Rattle.fish_layout.specs.Bytes.{bytes_in, words_for}
use Rattle.fish_layout.specs.Cleared.{Spells, body_of, entry_at, unlink}
use Rattle.fish_layout.specs.Entry.{entry_id, entry_number, value_offset, value_size}
use Rattle.fish_layout.specs.Hash.{bucket_in, fnv1a, key_hash_of}
use Rattle.fish_layout.specs.Values.{value_bytes}
use Rattle.fish_layout.specs.declared.parts.BodyParts.{BodyParts}
use Rattle.fish_layout.specs.declared.parts.KeyPart.{KeyPart}
use Rattle.fish_layout.proofs.Bytes.{length_words}
use Rattle.fish_layout.proofs.Entries.{value_at, values_within}
use Rattle.fish_layout.proofs.KeyWords.{SaysKey, spelled_key}
use Rattle.fish_layout.proofs.Outlines.{body_room, body_values}
use Rattle.fish_layout.proofs.Spelled.{spelled_body, spelled_keys}

-- ---- bytes

-- a byte of a word, by division
pub byte_of : (w j : ℕ) → j < 8 → get_or (to_le_bytes w64 w) j 0 ≡ w / 256 ^ j % 256
byte_of w zero h = omega arith
byte_of w (suc zero) h = refl
byte_of w (suc (suc zero)) h = refl
byte_of w (suc (suc (suc zero))) h = refl
byte_of w (suc (suc (suc (suc zero)))) h = refl
byte_of w (suc (suc (suc (suc (suc zero))))) h = refl
byte_of w (suc (suc (suc (suc (suc (suc zero)))))) h = refl
byte_of w (suc (suc (suc (suc (suc (suc (suc zero))))))) h = refl
byte_of w (suc (suc (suc (suc (suc (suc (suc (suc j)))))))) h = absurd (omega arith)

-- a byte of words stands in the word that it falls in
byte_in : (ws : List ℕ) (o : ℕ) → o / 8 < length ws →
    get_or (flat_map (to_le_bytes w64) ws) o 0 ≡ get_or ws (o / 8) 0 / 256 ^ (o % 8) % 256
byte_in ws o within =
    let front = flat_map (to_le_bytes w64) (take (o / 8) ws) in
    let position : o ≡ length front + o % 8 =
    omega (arith, length_words (take (o / 8) ws), length-take-le (o / 8) ws) in
    ap (λ n. get_or (flat_map (to_le_bytes w64) ws) n 0) position
    ∙ get_or-flat_map (to_le_bytes w64) ws (o / 8) (o % 8) 0 0 within (omega arith)
    ∙ byte_of (get_or ws (o / 8) 0) (o % 8) (omega arith)

-- a byte after a position of words, among so many that stand there
byte_there : (e : ℕ → ℕ) (ws : List ℕ) (at n o : ℕ) → ((i : ℕ) → e i ≡ get_or ws i 0) →
    at + words_for n ≤ length ws → o < n → byte_behind e at o ≡ get_or (bytes_in (drop at ws) n) o 0
byte_there e ws at n o words room within =
    let behind : o / 8 < length (drop at ws) = omega (arith, length-drop at ws) in
    ap (λ w. w / 256 ^ (o % 8) % 256) (words (at + o / 8) ∙ sym (get_or-drop at ws (o / 8) 0))
    ∙ sym (byte_in (drop at ws) o behind)
    ∙ sym (get_or-take n (flat_map (to_le_bytes w64) (drop at ws)) o 0 within)

-- a byte of the values, from the words
values_byte : {p : BodyParts} {e : ℕ → ℕ} (o : ℕ) → Spells p e → o < length (values_of p.keys) →
    byte_behind e (entry_at (length p.keys)) o ≡ get_or (values_of p.keys) o 0
values_byte {p} {e} o s within =
    let body : IsBody p (body_words p) = record { proper = s.proper; is = refl } in
    let at = entry_at (length p.keys) in
    let size = length (values_of p.keys) in
    let room : at + words_for size ≤ length (body_words p) = omega (arith, body_room body) in
    byte_there e (body_words p) at size o s.words room within
    ∙ ap (λ b. get_or b o 0) (body_values body)

-- a byte of one value, among those of all
value_byte : (ks : List KeyPart) (c : ℕ) (k : KeyPart) (j : ℕ) → c < length ks → k ≡ get_or ks c k →
    j < length (value_bytes k.value) →
    get_or (values_of ks) (length (values_of (take c ks)) + j) 0 ≡ get_or (value_bytes k.value) j 0
value_byte ks c k j within is in_value =
    let from = length (values_of (take c ks)) in
    let to = from + length (value_bytes k.value) in
    sym (get_or-drop from (values_of ks) j 0)
    ∙ sym (get_or-take (to - from) (drop from (values_of ks)) j 0 (omega arith))
    ∙ ap (λ b. get_or b j 0) (value_at ks c k from to within is refl refl)

-- ---- keys

-- a key that is found is in the list, and is what stands at its position
found_at : (ks : List KeyPart) (c : ℕ) (k : KeyPart) → slice_get ks c ≡ Some k →
    (c < length ks) × (k ≡ get_or ks c k)
found_at ks c k found = (slice_get_within ks c k found, sym (get_or_from_slice_get ks c k k found))

-- the words of a key entry say what its key is
says_key : {p : BodyParts} {e : ℕ → ℕ} (c : ℕ) (k : KeyPart) → Spells p e →
    slice_get p.keys c ≡ Some k → SaysKey p e c k
says_key {p} {e} c k s found =
    let here = found_at p.keys c k found in
    spelled_key c k s here.0 here.1

-- the id in the words of a key entry is its key's
pub entry_id-key : {p : BodyParts} {e : ℕ → ℕ} (c : ℕ) (k : KeyPart) → Spells p e →
    slice_get p.keys c ≡ Some k → entry_id (e (entry_at c + 1)) ≡ k.id
entry_id-key {p} {e} c k s found = (says_key c k s found).id

-- the number in the words of a key entry is its record's
pub entry_number-key : {p : BodyParts} {e : ℕ → ℕ} (c : ℕ) (k : KeyPart) → Spells p e →
    slice_get p.keys c ≡ Some k → entry_number (e (entry_at c + 1)) ≡ p.number
entry_number-key {p} {e} c k s found = (says_key c k s found).number

-- so many bytes after a position are the value's
value_there : {p : BodyParts} {e : ℕ → ℕ} (c : ℕ) (k : KeyPart) → Spells p e →
    slice_get p.keys c ≡ Some k →
    map (λ j. byte_behind e (entry_at (length p.keys)) (length (values_of (take c p.keys)) + j))
    (range_with_len 0 (length (value_bytes k.value))) ≡ value_bytes k.value
value_there {p} {e} c k s found =
    let here = found_at p.keys c k found in
    let from = length (values_of (take c p.keys)) in
    let size = length (value_bytes k.value) in
    let byte = λ (j : ℕ). byte_behind e (entry_at (length p.keys)) (from + j) in
    let count = length-map-range_with_len byte 0 size in
    ext_get_or 0 (map byte (range_with_len 0 size)) (value_bytes k.value) count
    (λ j within.
    let in_value : j < size = omega (arith, count) in
    let in_all : from + j < length (values_of p.keys) =
    omega (arith, values_within p.keys c k here.0 here.1) in
    get_or-map-range_with_len byte 0 size j j 0 in_value (omega arith)
    ∙ values_byte (from + j) s in_all ∙ value_byte p.keys c k j here.0 here.1 in_value)

-- the value's bytes in the words of a key entry are its key's
pub value_in-key : {p : BodyParts} {e : ℕ → ℕ} (c : ℕ) (k : KeyPart) → Spells p e →
    slice_get p.keys c ≡ Some k → value_in e c ≡ value_bytes k.value
value_in-key {p} {e} c k s found =
    let says = says_key c k s found in
    let bytes = λ (keys from size : ℕ).
    map (λ j. byte_behind e (entry_at keys) (from + j)) (range_with_len 0 size) in
    let offset = value_offset (e (entry_at c + 2)) in
    let size = value_size (e (entry_at c + 2)) in
    ap (λ keys. bytes keys offset size) (spelled_keys s)
    ∙ ap (λ from. bytes (length p.keys) from size) says.offset
    ∙ ap (bytes (length p.keys) (length (values_of (take c p.keys)))) says.size
    ∙ value_there c k s found

-- the bucket of a key entry is that of its key's hash
pub bucket_of-key : {p : BodyParts} {e : ℕ → ℕ} (buckets c : ℕ) (k : KeyPart) → Spells p e →
    slice_get p.keys c ≡ Some k →
    bucket_of buckets e c ≡ bucket_in (key_hash_of k.id k.value) buckets
unfolding bucket_of
bucket_of-key {p} {e} buckets c k s found =
    ap (λ id. bucket_in (fnv1a (to_le_bytes w16 id ++ value_in e c)) buckets)
    (entry_id-key c k s found)
    ∙ ap (λ bytes. bucket_in (fnv1a (to_le_bytes w16 k.id ++ bytes)) buckets)
    (value_in-key c k s found)

-- ---- bodies

-- a key without its previous node stands where the key stood
unlinked_key : (ks : List KeyPart) (c : ℕ) (k : KeyPart) → slice_get ks c ≡ Some k →
    slice_get (unlink ks) c ≡ Some (record k { prev = 0 })
unlinked_key [] c k found = cc
unlinked_key (x ∷ ks) zero k found =
    let alone : KeyPart → KeyPart = λ y. record y { prev = 0 } in
    ap (λ y. Some (alone y)) (same_Some x k found)
unlinked_key (x ∷ ks) (suc c) k found = unlinked_key ks c k found

-- the bucket of a record's key entry is that of its key's hash
pub bucket_of-body : {p : BodyParts} {ws : List ℕ} (buckets c : ℕ) (k : KeyPart) → IsBody p ws →
    slice_get p.keys c ≡ Some k →
    bucket_of buckets (body_of ws) c ≡ bucket_in (key_hash_of k.id k.value) buckets
bucket_of-body {p} {ws} buckets c k h found =
    bucket_of-key buckets c (record k { prev = 0 }) (spelled_body ws h)
    (unlinked_key p.keys c k found)
