-- What the three words of a key entry say.
use Rattle.std.proofs.Common.{◌≡◌, ℕ, zero, suc, ◌+◌, ◌-◌, ◌*◌, ◌^◌, ◌<◌}
use Rattle.std.proofs.Common.{List, [], ◌∷◌, ◌++◌, length, get_or, take, drop}
use Rattle.std.proofs.Common.{sym, ap, ◌∙◌, arith, length-append}
use Rattle.std.proofs.lemmas.List.{get_or-drop}
use Rattle.fish_value.specs.declared.value.Value.{Value}
use Rattle.fish_value.specs.declared.value.Value.TheVariants as kind
use Rattle.fish_layout.specs.Body.{IsBody, IsProper, body_header, body_words, entry_word}
use Rattle.fish_layout.specs.Body.{key_words, packed_value, value_word, values_of}
use Rattle.fish_layout.specs.Cleared.{Spells, entry_at}
use Rattle.fish_layout.specs.Entry.{entry_id, entry_number, entry_place, value_kind, value_offset, value_size}
use Rattle.fish_layout.specs.Values.{kind_code, value_bytes}
use Rattle.fish_layout.specs.declared.parts.BodyParts.{BodyParts}
use Rattle.fish_layout.specs.declared.parts.KeyPart.{KeyPart}
use Rattle.fish_layout.proofs.Entries.{few_bytes_at, proper_at, value_at}
use Rattle.fish_layout.proofs.Fields.{field_is}
use Rattle.fish_layout.proofs.Links.{after_keys, body_parted}
use Rattle.fish_layout.proofs.Sizes.{few_bytes, few_keys_of}

-- the words of the entry c say what its key is
pub record SaysKey (p : BodyParts) (e : ℕ → ℕ) (c : ℕ) (k : KeyPart) : Type 0 where
  pub prev : e (entry_at c) ≡ k.prev
  pub number : entry_number (e (entry_at c + 1)) ≡ p.number
  pub id : entry_id (e (entry_at c + 1)) ≡ k.id
  pub position : entry_place (e (entry_at c + 1)) ≡ c
  pub kind : value_kind (e (entry_at c + 2)) ≡ kind_code k.value
  pub size : value_size (e (entry_at c + 2)) ≡ length (value_bytes k.value)
  pub offset : value_offset (e (entry_at c + 2)) ≡ length (values_of (take c p.keys))

-- the words from the entry c on begin with its three
entries_from : (number position offset : ℕ) (ks : List KeyPart) (t : List ℕ) (c : ℕ) (k : KeyPart) → c < length ks →
    k ≡ get_or ks c k →
    (rest : List ℕ) × (drop (3 * c) (key_words number position offset ks ++ t) ≡
    k.prev ∷ entry_word number k.id (position + c) ∷ value_word k.value (offset + length (values_of (take c ks))) ∷ rest)
entries_from number position offset [] t c k within is = absurd (omega arith)
entries_from number position offset (x ∷ ks) t zero k within is =
    let rest = key_words number (position + 1) (offset + length (value_bytes x.value)) ks ++ t in
    let here : position ≡ position + 0 = omega arith in
    let there : offset ≡ offset + 0 = omega arith in (
      rest,
      ap (λ y. y.prev ∷ entry_word number y.id position ∷ value_word y.value offset ∷ rest) (sym is)
          ∙ ap (λ n. k.prev ∷ entry_word number k.id n ∷ value_word k.value offset ∷ rest) here
          ∙ ap (λ n. k.prev ∷ entry_word number k.id (position + 0) ∷ value_word k.value n ∷ rest) there,
    )
entries_from number position offset (x ∷ ks) t (suc c) k within is =
    let size = length (value_bytes x.value) in
    let more = entries_from number (position + 1) (offset + size) ks t c k (omega arith) is in
    let further : 3 * suc c ≡ suc (suc (suc (3 * c))) = omega arith in
    let here : position + 1 + c ≡ position + suc c = omega arith in
    let there : offset + size + length (values_of (take c ks)) ≡ offset + length (values_of (take (suc c) (x ∷ ks))) =
    omega (arith, length-append (value_bytes x.value) (values_of (take c ks))) in (
      more.0,
      ap (λ n. drop n (key_words number position offset (x ∷ ks) ++ t)) further
          ∙ more.1
          ∙ ap (λ n.
          k.prev ∷ entry_word number k.id n ∷ value_word k.value
          (offset + size + length (values_of (take c ks))) ∷ more.0) here
          ∙ ap (λ n. k.prev ∷ entry_word number k.id (position + suc c) ∷ value_word k.value n ∷ more.0) there,
    )

-- the words of a record from the entry c on begin with its three
body_from : (p : BodyParts) (c : ℕ) (k : KeyPart) → c < length p.keys → k ≡ get_or p.keys c k →
    (rest : List ℕ)
    × (drop (entry_at c) (body_words p) ≡
    k.prev ∷ entry_word p.number k.id c ∷ value_word k.value (length (values_of (take c p.keys))) ∷ rest)
body_from p c k within is =
    let from = entries_from p.number 0 0 p.keys (after_keys p) c k within is in
    let behind : entry_at c ≡ suc (3 * c) = omega arith in
    let here : 0 + c ≡ c = omega arith in
    let there : 0 + length (values_of (take c p.keys)) ≡ length (values_of (take c p.keys)) = omega arith in (
      from.0,
      ap (drop (entry_at c)) (body_parted p)
          ∙ ap (λ n. drop n (body_header p ∷ (key_words p.number 0 0 p.keys ++ after_keys p))) behind
          ∙ from.1
          ∙ ap (λ n.
          k.prev ∷ entry_word p.number k.id n ∷ value_word k.value (0 + length (values_of (take c p.keys))) ∷
          from.0) here
          ∙ ap (λ n. k.prev ∷ entry_word p.number k.id c ∷ value_word k.value n ∷ from.0) there,
    )

-- a word of a list after a position
word_behind : (ws : List ℕ) (n i m : ℕ) (l : List ℕ) → drop n ws ≡ l → m ≡ n + i → get_or ws m 0 ≡ get_or l i 0
word_behind ws n i m l is at = ap (λ j. get_or ws j 0) at ∙ sym (get_or-drop n ws i 0) ∙ ap (λ b. get_or b i 0) is

-- ---- fields

-- the fields of the second word
entry_fields : (number id position w : ℕ) → number < 2 ^ 28 → id < 2 ^ 8 → position < 2 ^ 9 → w ≡ entry_word number id position →
    (entry_number w ≡ number) × (entry_id w ≡ id) × (entry_place w ≡ position)
unfolding entry_number entry_id entry_place
entry_fields number id position w n i c is = (
  field_is (id + position * 2 ^ 8) 28 number 0 0 w (omega arith) (omega arith) n,
  field_is position 8 id 28 number w (omega arith) n i,
  field_is 0 9 position 36 (number + id * 2 ^ 28) w (omega arith) (omega arith) c,
)

-- the fields of the third word
value_fields : (code size offset w : ℕ) → code < 2 ^ 2 → size < 2 ^ 9 → offset < 2 ^ 18 →
    w ≡ packed_value code size offset →
    (value_kind w ≡ code) × (value_size w ≡ size) × (value_offset w ≡ offset)
unfolding value_kind value_size value_offset
value_fields code size offset w c s o is = (
  field_is (size + offset * 2 ^ 9) 2 code 0 0 w (omega arith) (omega arith) c,
  field_is offset 9 size 2 code w (omega arith) c s,
  field_is 0 18 offset 11 (code + size * 2 ^ 2) w (omega arith) (omega arith) o,
)

-- a kind's code has two bits
kind_fits : (v : Value) → kind_code v < 2 ^ 2
kind_fits (kind.Bool b) = omega arith
kind_fits (kind.Int n) = omega arith
kind_fits (kind.Text s) = omega arith

-- the words of a record say each of its keys
pub words_say : (p : BodyParts) (e : ℕ → ℕ) (c : ℕ) (k : KeyPart) → IsProper p →
    ((i : ℕ) → e i ≡ get_or (body_words p) i 0) → c < length p.keys → k ≡ get_or p.keys c k →
    SaysKey p e c k
words_say p e c k h same within is =
    let from = body_from p c k within is in
    let offset = length (values_of (take c p.keys)) in
    let proper = proper_at 0 p.keys c k h.keys within is in
    let first = word_behind (body_words p) (entry_at c) 0 (entry_at c) _ from.1 (omega arith) in
    let second = word_behind (body_words p) (entry_at c) 1 (entry_at c + 1) _ from.1 (omega arith) in
    let third = word_behind (body_words p) (entry_at c) 2 (entry_at c + 2) _ from.1 (omega arith) in
    let entry =
    entry_fields p.number k.id c (e (entry_at c + 1)) h.number proper.0 (omega (arith, few_keys_of h))
    (same (entry_at c + 1) ∙ second) in
    let value =
    value_fields (kind_code k.value) (length (value_bytes k.value)) offset (e (entry_at c + 2))
    (kind_fits k.value)
    (omega (arith, few_bytes k.value proper.1)) (omega (arith, few_bytes_at p.keys c k h.few h.keys within is))
    (same (entry_at c + 2) ∙ third) in
    record {
      prev = same (entry_at c) ∙ first;
      number = entry.0;
      id = entry.1;
      position = entry.2;
      kind = value.0;
      size = value.1;
      offset = value.2;
    }

-- what is spelled says each key of its parts
pub spelled_key : {p : BodyParts} {e : ℕ → ℕ} (c : ℕ) (k : KeyPart) → Spells p e → c < length p.keys →
    k ≡ get_or p.keys c k → SaysKey p e c k
spelled_key {p} {e} c k s within is = words_say p e c k s.proper s.words within is

-- a record says each of its keys
pub body_key : {p : BodyParts} {ws : List ℕ} (c : ℕ) (k : KeyPart) → IsBody p ws → c < length p.keys →
    k ≡ get_or p.keys c k → SaysKey p (λ i. get_or ws i 0) c k
body_key {p} {ws} c k h within is =
    words_say p (λ i. get_or ws i 0) c k h.proper (λ i. ap (λ b. get_or b i 0) h.is) within is

-- the bytes that the third word points at are those of the key's value
pub value_pointed : {p : BodyParts} {ws : List ℕ} (c : ℕ) (k : KeyPart) (values : List ℕ) (from size : ℕ) → IsBody p ws →
    c < length p.keys → k ≡ get_or p.keys c k → values ≡ values_of p.keys →
    from ≡ value_offset (get_or ws (entry_at c + 2) 0) → size ≡ value_size (get_or ws (entry_at c + 2) 0) →
    take (from + size - from) (drop from values) ≡ value_bytes k.value
value_pointed {p} {ws} c k values from size h within is same offset_is size_is =
    let says = body_key c k h within is in
    ap (λ l. take (from + size - from) (drop from l)) same
    ∙ value_at p.keys c k from (from + size) within is (offset_is ∙ says.offset)
    (ap (λ n. from + n) (size_is ∙ says.size))
