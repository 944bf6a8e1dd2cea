-- Words are a record of one parts alone, but for the number of a record with no key.
use Rattle.std.proofs.Common.{◌≡◌, ℕ, suc, ◌+◌, ◌-◌, ◌^◌, ◌<◌}
use Rattle.std.proofs.Common.{Bool, true, false, List, [], ◌∷◌, length, get_or, take, drop}
use Rattle.std.proofs.Common.{refl, sym, ap, ◌∙◌, arith}
use Rattle.std.specs.Prelude.{ℤ, pos, negsuc, IsTrue}
use Rattle.std.specs.Int.{from_le_bytes}
use Rattle.std.specs.Int.Width.{w64}
use Rattle.std.proofs.lemmas.Bool.Decides.{nat_tests}
use Rattle.std.proofs.Math.Decide.{ℕ_discrete}
use Rattle.std.proofs.lemmas.List.{ext_get_or}
use Rattle.std.proofs.lemmas.Nat.{from_le_bytes-to_le_bytes_8}
use Rattle.fish_value.specs.Number.{fits_i64}
use Rattle.fish_value.specs.declared.value.Value.{Value}
use Rattle.fish_value.specs.declared.value.Value.TheVariants as kind
use Rattle.fish_layout.specs.Body.{IsBody, IsProperValue, body_lines, body_words, values_of}
use Rattle.fish_layout.specs.Bytes.{bytes_in}
use Rattle.fish_layout.specs.Cleared.{Spells, entry_at}
use Rattle.fish_layout.specs.Values.{complement, kind_code, value_bytes}
use Rattle.fish_layout.specs.declared.parts.BodyParts.{BodyParts}
use Rattle.fish_layout.specs.declared.parts.KeyPart.{KeyPart}
use Rattle.fish_layout.proofs.Entries.{proper_at, some_element, value_at}
use Rattle.fish_layout.proofs.Headers.{same_form}
use Rattle.fish_layout.proofs.KeyWords.{body_key}
use Rattle.fish_layout.proofs.Outlines.{body_payload, body_values, body_values_size, no_values, payload_place}
use Rattle.fish_layout.proofs.Sizes.{length-body_words}
use Rattle.fish_layout.proofs.Spelled.{body_says, spelled_lines}

-- ---- values

-- a truth value by its byte
same_truth : (a b : Bool) → value_bytes (kind.Bool a) ≡ value_bytes (kind.Bool b) → a ≡ b
same_truth true true h = refl
same_truth false false h = refl
same_truth true false h = cc
same_truth false true h = cc

-- a whole number by its complement
same_complement : (a b : ℤ) → IsTrue (fits_i64 a) → IsTrue (fits_i64 b) → complement a ≡ complement b → a ≡ b
same_complement (pos a) (pos b) fa fb h = ap pos h
same_complement (negsuc a) (negsuc b) fa fb h = ap negsuc (grind (arith, nat_tests))
same_complement (pos a) (negsuc b) fa fb h = absurd (grind (arith, nat_tests))
same_complement (negsuc a) (pos b) fa fb h = absurd (grind (arith, nat_tests))

-- a complement has 64 bits
complement_fits : (a : ℤ) → IsTrue (fits_i64 a) → complement a < 2 ^ 64
complement_fits (pos a) h = grind (arith, nat_tests)
complement_fits (negsuc a) h = omega arith

-- a value by its kind and its bytes
pub same_value : (v w : Value) → IsProperValue v → IsProperValue w → kind_code v ≡ kind_code w →
    value_bytes v ≡ value_bytes w → v ≡ w
same_value (kind.Bool a) (kind.Bool b) pv pw k h = ap kind.Bool (same_truth a b h)
same_value (kind.Int a) (kind.Int b) pv pw k h =
    ap kind.Int (same_complement a b pv pw
    (sym (from_le_bytes-to_le_bytes_8 (complement a) (complement_fits a pv)) ∙ ap (from_le_bytes w64) h
    ∙ from_le_bytes-to_le_bytes_8 (complement b) (complement_fits b pw)))
same_value (kind.Text a) (kind.Text b) pv pw k h = ap kind.Text h
same_value (kind.Bool a) (kind.Int b) pv pw k h = absurd (omega arith)
same_value (kind.Bool a) (kind.Text b) pv pw k h = absurd (omega arith)
same_value (kind.Int a) (kind.Bool b) pv pw k h = absurd (omega arith)
same_value (kind.Int a) (kind.Text b) pv pw k h = absurd (omega arith)
same_value (kind.Text a) (kind.Bool b) pv pw k h = absurd (omega arith)
same_value (kind.Text a) (kind.Int b) pv pw k h = absurd (omega arith)

-- ---- keys

-- the values' bytes have one length
values_size : {p q : BodyParts} {ws : List ℕ} → IsBody p ws → IsBody q ws →
    length (values_of p.keys) ≡ length (values_of q.keys)
values_size {p} {q} {ws} hp hq =
    let keys : length p.keys ≡ length q.keys = sym (body_says hp).keys ∙ (body_says hq).keys in
    elim (ℕ_discrete (length p.keys) 0) [
      | yes none ↦ no_values p.keys (sym none) ∙ sym (no_values q.keys (sym none ∙ keys))
      | no some ↦ sym (body_values_size hp (length p.keys) refl (omega arith))
          ∙ body_values_size hq (length p.keys) keys (omega arith)
    ]

-- the values' bytes are the same
values_once : {p q : BodyParts} {ws : List ℕ} → IsBody p ws → IsBody q ws → values_of p.keys ≡ values_of q.keys
values_once {p} {q} {ws} hp hq =
    let keys : length p.keys ≡ length q.keys = sym (body_says hp).keys ∙ (body_says hq).keys in
    sym (body_values hp)
    ∙ ap (λ n. bytes_in (drop (entry_at n) ws) (length (values_of p.keys))) keys
    ∙ ap (bytes_in (drop (entry_at (length q.keys)) ws)) (values_size hp hq)
    ∙ body_values hq

-- the keys at one position are the same
key_once : {p q : BodyParts} {ws : List ℕ} (c : ℕ) (k l : KeyPart) → IsBody p ws → IsBody q ws → c < length p.keys →
    c < length q.keys →
    k ≡ get_or p.keys c k → l ≡ get_or q.keys c l → k ≡ l
key_once {p} {q} {ws} c k l hp hq in_p in_q is_k is_l =
    let sp = body_key c k hp in_p is_k in
    let sq = body_key c l hq in_q is_l in
    let from : length (values_of (take c p.keys)) ≡ length (values_of (take c q.keys)) = sym sp.offset ∙ sq.offset in
    let size : length (value_bytes k.value) ≡ length (value_bytes l.value) = sym sp.size ∙ sq.size in
    let n = length (values_of (take c p.keys)) in
    let m = n + length (value_bytes k.value) in
    let bytes : value_bytes k.value ≡ value_bytes l.value =
    sym (value_at p.keys c k n m in_p is_k refl refl)
    ∙ ap (λ b. take (m - n) (drop n b)) (values_once hp hq)
    ∙ value_at q.keys c l n m in_q is_l from (ap (λ x. n + x) size) in
    let value : k.value ≡ l.value =
    same_value k.value l.value (proper_at 0 p.keys c k hp.proper.keys in_p is_k).1
    (proper_at 0 q.keys c l hq.proper.keys in_q is_l).1 (sym sp.kind ∙ sq.kind) bytes in
    ap (λ x. record k { prev = x }) (sym sp.prev ∙ sq.prev)
    ∙ ap (λ x. record k { prev = l.prev; id = x }) (sym sp.id ∙ sq.id)
    ∙ ap (λ x. record { prev = l.prev; id = l.id; value = x }) value

-- lists of keys that are the same at each position are the same
same_keys : (ks ls : List KeyPart) → length ks ≡ length ls →
    ((c : ℕ) (k l : KeyPart) → c < length ks → c < length ls → k ≡ get_or ks c k → l ≡ get_or ls c l → k ≡ l) → ks ≡ ls
same_keys [] [] size same = refl
same_keys [] (l ∷ ls) size same = absurd (omega arith)
same_keys (k ∷ ks) [] size same = absurd (omega arith)
same_keys (k ∷ ks) (l ∷ ls) size same =
    ap (λ x. x ∷ ks) (same 0 k l (omega arith) (omega arith) refl refl)
    ∙ ap (λ xs. l ∷ xs)
    (same_keys ks ls (omega arith)
    (λ c x y in_k in_l is_x is_y. same (suc c) x y (omega arith) (omega arith) is_x is_y))

-- ---- parts

-- the numbers of a record with a key are the same
pub body_number : {p q : BodyParts} {ws : List ℕ} → IsBody p ws → IsBody q ws → 0 < length p.keys → p.number ≡ q.number
body_number {p} {q} {ws} hp hq some =
    let keys : length p.keys ≡ length q.keys = sym (body_says hp).keys ∙ (body_says hq).keys in
    let k = some_element p.keys 0 some in
    let l = some_element q.keys 0 (omega arith) in
    sym (body_key 0 k.0 hp some k.1).number ∙ (body_key 0 l.0 hq (omega arith) l.1).number

-- the parts of a record with one number are the same
pub body_once : {p q : BodyParts} {ws : List ℕ} → IsBody p ws → IsBody q ws → p.number ≡ q.number → p ≡ q
body_once {p} {q} {ws} hp hq number =
    let sp = body_says hp in
    let sq = body_says hq in
    let form : p.form ≡ q.form = same_form q.form p.form (sym sq.form ∙ sp.form) in
    let size : length p.keys ≡ length q.keys = sym sp.keys ∙ sq.keys in
    let keys : p.keys ≡ q.keys =
    same_keys p.keys q.keys size (λ c k l in_p in_q is_k is_l. key_once c k l hp hq in_p in_q is_k is_l) in
    let position : payload_place p ≡ payload_place q = omega (arith, ap length (values_once hp hq)) in
    let payload : p.payload ≡ q.payload =
    sym (body_payload hp)
    ∙ ap (λ n. bytes_in (drop n ws) (length p.payload)) position
    ∙ ap (bytes_in (drop (payload_place q) ws)) (sym sp.length ∙ sq.length)
    ∙ body_payload hq in
    ap (λ x. record p { form = x }) form
    ∙ ap (λ x. record p { form = q.form; lane = x }) (sym sp.lane ∙ sq.lane)
    ∙ ap (λ x. record p { form = q.form; lane = q.lane; version = x }) (sym sp.version ∙ sq.version)
    ∙ ap (λ x. record p { form = q.form; lane = q.lane; version = q.version; number = x }) number
    ∙ ap (λ x. record p { form = q.form; lane = q.lane; version = q.version; number = q.number; keys = x }) keys
    ∙ ap (λ x. record q { payload = x }) payload

-- so are parts whose number is 0 where there is no key
pub body_back : {p q : BodyParts} {ws : List ℕ} → IsBody p ws → IsBody q ws → (length p.keys ≡ 0 → p.number ≡ 0) →
    (length q.keys ≡ 0 → q.number ≡ 0) → p ≡ q
body_back {p} {q} {ws} hp hq none_p none_q =
    let keys : length p.keys ≡ length q.keys = sym (body_says hp).keys ∙ (body_says hq).keys in
    body_once hp hq (elim (ℕ_discrete (length p.keys) 0) [
      | yes none ↦ none_p none ∙ sym (none_q (sym keys ∙ none))
      | no some ↦ body_number hp hq (omega arith)
    ])

-- what is spelled twice has the same words
spelled_words : {p q : BodyParts} {e : ℕ → ℕ} → Spells p e → Spells q e → body_words p ≡ body_words q
spelled_words {p} {q} {e} sp sq =
    let lines : body_lines p ≡ body_lines q = sym (spelled_lines sp) ∙ spelled_lines sq in
    ext_get_or 0 (body_words p) (body_words q) (omega (arith, length-body_words p, length-body_words q))
    (λ i _. sym (sp.words i) ∙ sq.words i)

-- the parts that are spelled, with one number, are the same
pub spelled_once : {p q : BodyParts} {e : ℕ → ℕ} → Spells p e → Spells q e → p.number ≡ q.number → p ≡ q
spelled_once {p} {q} {e} sp sq number =
    let hp : IsBody p (body_words p) = record { proper = sp.proper; is = refl } in
    let hq : IsBody q (body_words p) = record { proper = sq.proper; is = spelled_words sp sq } in
    body_once hp hq number
