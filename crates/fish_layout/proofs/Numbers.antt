-- Records that differ in their number alone.
use Rattle.std.proofs.Common.{◌≡◌, ℕ, zero, suc, ◌+◌, ◌-◌, ◌*◌, ◌/◌, ◌%◌, ◌^◌, ◌<◌}
use Rattle.std.proofs.Common.{List, [], ◌∷◌, ◌++◌, length, get_or, replicate, refl, sym, ap, ◌∙◌, arith}
use Rattle.std.proofs.lemmas.List.{ext_get_or}
use Rattle.std.proofs.Math.Decide.{ℕ_discrete, dec_le}
use Rattle.fish_layout.specs.Body.{IsBody, IsProper, body_header, body_words, key_words, values_of, words_after_head}
use Rattle.fish_layout.specs.Bytes.{words_of_bytes}
use Rattle.fish_layout.specs.within.Cleared.{IsNumberWord}
use Rattle.fish_layout.specs.within.Entry.{renumbered}
use Rattle.fish_layout.specs.Header.{form_code, header_word}
use Rattle.fish_layout.specs.Values.{value_bytes}
use Rattle.fish_layout.specs.declared.parts.BodyParts.{BodyParts}
use Rattle.fish_layout.specs.declared.parts.KeyPart.{KeyPart}
use Rattle.fish_layout.proofs.Links.{after_keys, body_parted}
use Rattle.fish_layout.proofs.Outlines.{body_length}
use Rattle.fish_layout.proofs.Sizes.{length-body_words, length-words_after_head}

-- a word that is the second of no entry has no number
number_at : (m n position offset : ℕ) (ks : List KeyPart) (t : List ℕ) (i : ℕ) → ¬ ((i < 3 * length ks) × (i % 3 ≡ 1)) →
    get_or (key_words m position offset ks ++ t) i 0 ≡ get_or (key_words n position offset ks ++ t) i 0
number_at m n position offset [] t i h = refl
number_at m n position offset (k ∷ ks) t zero h = refl
number_at m n position offset (k ∷ ks) t (suc zero) h = absurd (h (omega arith, omega arith))
number_at m n position offset (k ∷ ks) t (suc (suc zero)) h = refl
number_at m n position offset (k ∷ ks) t (suc (suc (suc i))) h =
    number_at m n (position + 1) (offset + length (value_bytes k.value)) ks t i (λ key. h (omega arith, omega arith))

-- the second word of an entry, with another number
number_key : (m n position offset : ℕ) (ks : List KeyPart) (t : List ℕ) (i : ℕ) → n < 2 ^ 28 → i < 3 * length ks →
    i % 3 ≡ 1 →
    get_or (key_words m position offset ks ++ t) i 0 ≡ renumbered (get_or (key_words n position offset ks ++ t) i 0) m
number_key m n position offset [] t i fits h second = absurd (omega arith)
number_key m n position offset (k ∷ ks) t zero fits h second = absurd (omega arith)
number_key m n position offset (k ∷ ks) t (suc zero) fits h second = omega arith
number_key m n position offset (k ∷ ks) t (suc (suc zero)) fits h second = absurd (omega arith)
number_key m n position offset (k ∷ ks) t (suc (suc (suc i))) fits h second =
    number_key m n (position + 1) (offset + length (value_bytes k.value)) ks t i fits (omega arith) (omega arith)

-- the same parts with another number
abbrev numbered : ℕ → BodyParts → BodyParts
numbered m p = record p { number = m }

-- as many words
numbered_length : (m : ℕ) (p : BodyParts) → length (words_after_head (numbered m p)) ≡ length (words_after_head p)
numbered_length m p = length-words_after_head (numbered m p) ∙ sym (length-words_after_head p)

-- the words of a record with another number, with the parts that stay as they are in the record
numbered_parted : (m : ℕ) (p : BodyParts) →
    body_words (numbered m p) ≡ body_header p ∷ (key_words m 0 0 p.keys ++ after_keys p)
numbered_parted m p =
    let words = λ (n : ℕ).
    header_word ((1 + n + 3) / 4) (form_code p.form) (length p.keys) p.lane p.version (length p.payload)
    ∷ (key_words m 0 0 p.keys ++
    (words_of_bytes (values_of p.keys) ++
    (words_of_bytes p.payload ++ replicate ((1 + n + 3) / 4 * 4 - (1 + n)) 0))) in
    body_parted (numbered m p) ∙ ap words (numbered_length m p)

-- a word that is the second of no key entry stays
numbered_at : (m : ℕ) (p : BodyParts) (i : ℕ) → ¬ IsNumberWord (length p.keys) i →
    get_or (body_words (numbered m p)) i 0 ≡ get_or (body_words p) i 0
numbered_at m p zero h = ap (λ b. get_or b 0 0) (numbered_parted m p) ∙ sym (ap (λ b. get_or b 0 0) (body_parted p))
numbered_at m p (suc i) h =
    ap (λ b. get_or b (suc i) 0) (numbered_parted m p)
    ∙ number_at m p.number 0 0 p.keys (after_keys p) i (λ key. h (omega arith, omega arith))
    ∙ sym (ap (λ b. get_or b (suc i) 0) (body_parted p))

-- the second word of a key entry has the other number
numbered_key : (m : ℕ) (p : BodyParts) (i : ℕ) → p.number < 2 ^ 28 → IsNumberWord (length p.keys) i →
    get_or (body_words (numbered m p)) i 0 ≡ renumbered (get_or (body_words p) i 0) m
numbered_key m p zero fits key = absurd (omega arith)
numbered_key m p (suc i) fits key =
    ap (λ b. get_or b (suc i) 0) (numbered_parted m p)
    ∙ number_key m p.number 0 0 p.keys (after_keys p) i fits (omega arith) (omega arith)
    ∙ sym (ap (λ b. renumbered (get_or b (suc i) 0) m) (body_parted p))

-- words whose entries have another number, and that are else a record's, are the record with this number
pub body_numbered : {p : BodyParts} {ws : List ℕ} (m : ℕ) (new : List ℕ) → IsBody p ws → m < 2 ^ 28 →
    length new ≡ length ws →
    ((i : ℕ) → ¬ IsNumberWord (length p.keys) i → get_or new i 0 ≡ get_or ws i 0) →
    ((i : ℕ) → IsNumberWord (length p.keys) i → get_or new i 0 ≡ renumbered (get_or ws i 0) m) →
    IsBody (record p { number = m }) new
body_numbered {p} {ws} m new h fits size others entries =
    let word : (i : ℕ) → get_or ws i 0 ≡ get_or (body_words p) i 0 = λ i. ap (λ b. get_or b i 0) h.is in
    let stays : (i : ℕ) → ¬ IsNumberWord (length p.keys) i → get_or new i 0 ≡ get_or (body_words (numbered m p)) i 0 =
    λ i other. others i other ∙ word i ∙ sym (numbered_at m p i other) in
    let same : (i : ℕ) → get_or new i 0 ≡ get_or (body_words (numbered m p)) i 0 =
    λ i. elim (dec_le i (3 * length p.keys)) [
      | yes entry ↦ (elim (ℕ_discrete (i % 3) 2) [
        | yes second ↦ entries i (entry, second) ∙ ap (λ w. renumbered w m) (word i)
            ∙ sym (numbered_key m p i h.proper.number (entry, second))
        | no other ↦ stays i (λ key. other key.1)
      ])
      | no past ↦ stays i (λ key. past key.0)
    ] in
    let proper : IsProper (numbered m p) =
    record {
      some_lane = h.proper.some_lane;
      lane = h.proper.lane;
      version = h.proper.version;
      number = fits;
      few = h.proper.few;
      keys = h.proper.keys;
      short = h.proper.short;
      text = h.proper.text;
    } in
    record {
      proper = proper;
      is = ext_get_or 0 new (body_words (numbered m p))
          (omega (arith, body_length h, length-body_words (numbered m p), numbered_length m p)) (λ i _. same i);
    }
