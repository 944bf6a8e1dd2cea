-- Records that differ in the previous nodes of their key entries alone.
use Rattle.std.proofs.Common.{◌≡◌, ℕ, zero, suc, ◌+◌, ◌-◌, ◌*◌, ◌/◌, ◌%◌, ◌<◌}
use Rattle.std.proofs.Common.{List, [], ◌∷◌, ◌++◌, length, get_or, replicate}
use Rattle.std.proofs.Common.{refl, ap, sym, ◌∙◌, ◌≤◌, arith, append_assoc, subst}
use Rattle.fish_layout.specs.Body.{AreProperKeys, IsApart, IsProper, body_header, body_lines}
use Rattle.fish_layout.specs.Body.{body_words, key_words, values_of, words_after_head}
use Rattle.fish_layout.specs.Bytes.{words_of_bytes}
use Rattle.fish_layout.specs.Cleared.{AreUnlinked, IsKeyWord, unlink, unlinked}
use Rattle.fish_layout.specs.Header.{form_code, header_word}
use Rattle.fish_layout.specs.Values.{value_bytes}
use Rattle.fish_layout.specs.declared.parts.BodyParts.{BodyParts}
use Rattle.fish_layout.specs.declared.parts.KeyPart.{KeyPart}
use Rattle.fish_layout.proofs.Sizes.{length-words_after_head}

-- key entries from a position on whose previous nodes are what a function gives for their positions
abbrev pub relink : (ℕ → ℕ) → ℕ → List KeyPart → List KeyPart
relink r c [] = []
relink r c (k ∷ ks) = record k { prev = r c } ∷ relink r (c + 1) ks

-- a record's parts with these previous nodes, and else the same
abbrev pub relinked : (ℕ → ℕ) → BodyParts → BodyParts
relinked r p = record p { keys = relink r 0 p.keys }

-- ---- key entries

-- as many
pub length-relink : (r : ℕ → ℕ) (c : ℕ) (ks : List KeyPart) → length (relink r c ks) ≡ length ks
length-relink r c [] = refl
length-relink r c (k ∷ ks) = ap suc (length-relink r (c + 1) ks)

-- with the same values
pub values_of-relink : (r : ℕ → ℕ) (c : ℕ) (ks : List KeyPart) → values_of (relink r c ks) ≡ values_of ks
values_of-relink r c [] = refl
values_of-relink r c (k ∷ ks) = ap (λ b. value_bytes k.value ++ b) (values_of-relink r (c + 1) ks)

-- as far apart
IsApart-relink : (r : ℕ → ℕ) (c j : ℕ) (k : KeyPart) (ks : List KeyPart) → IsApart k ks
    → IsApart (record k { prev = r j }) (relink r c ks)
IsApart-relink r c j k [] h = tt
IsApart-relink r c j k (x ∷ ks) h = (h.0, IsApart-relink r (c + 1) j k ks h.1)

-- as proper
pub AreProperKeys-relink : (r : ℕ → ℕ) (c least : ℕ) (ks : List KeyPart) → AreProperKeys least ks →
    AreProperKeys least (relink r c ks)
AreProperKeys-relink r c least [] h = tt
AreProperKeys-relink r c least (k ∷ ks) h =
    (h.0, h.1, h.2, AreProperKeys-relink r (c + 1) k.id ks h.3, IsApart-relink r (c + 1) c k ks h.4)

-- what is linked twice is linked as the second time
pub relink-relink : (r s : ℕ → ℕ) (c : ℕ) (ks : List KeyPart) → relink r c (relink s c ks) ≡ relink r c ks
relink-relink r s c [] = refl
relink-relink r s c (k ∷ ks) = ap (λ rest. record k { prev = r c } ∷ rest) (relink-relink r s (c + 1) ks)

-- to have no previous node is to be linked to 0
pub relink-none : (c : ℕ) (ks : List KeyPart) → relink (λ _. 0) c ks ≡ unlink ks
relink-none c [] = refl
relink-none c (k ∷ ks) = ap (λ rest. record k { prev = 0 } ∷ rest) (relink-none (c + 1) ks)

-- entries without previous nodes stay when these are taken away
pub unlink-unlinked : (ks : List KeyPart) → AreUnlinked ks → unlink ks ≡ ks
unlink-unlinked [] h = refl
unlink-unlinked (k ∷ ks) h =
    ap (λ prev. record k { prev = prev } ∷ unlink ks) (sym h.0) ∙ ap (λ rest. k ∷ rest) (unlink-unlinked ks h.1)

-- what was unlinked has no previous node
pub AreUnlinked-unlink : (ks : List KeyPart) → AreUnlinked (unlink ks)
AreUnlinked-unlink [] = tt
AreUnlinked-unlink (k ∷ ks) = (refl, AreUnlinked-unlink ks)

-- a word that is the first of no entry stays
relink_at : (r : ℕ → ℕ) (c number position offset : ℕ) (ks : List KeyPart) (t : List ℕ) (i : ℕ) →
    ¬ ((i < 3 * length ks) × (i % 3 ≡ 0)) →
    get_or (key_words number position offset (relink r c ks) ++ t) i 0 ≡ get_or (key_words number position offset ks ++ t) i 0
relink_at r c number position offset [] t i h = refl
relink_at r c number position offset (k ∷ ks) t zero h = absurd (h (omega arith, omega arith))
relink_at r c number position offset (k ∷ ks) t (suc zero) h = refl
relink_at r c number position offset (k ∷ ks) t (suc (suc zero)) h = refl
relink_at r c number position offset (k ∷ ks) t (suc (suc (suc i))) h =
    relink_at r (c + 1) number (position + 1) (offset + length (value_bytes k.value)) ks t i
    (λ key. h (omega arith, omega arith))

-- the first word of an entry is its previous node
relink_key : (r : ℕ → ℕ) (c number position offset : ℕ) (ks : List KeyPart) (t : List ℕ) (i : ℕ) → i < 3 * length ks →
    i % 3 ≡ 0 →
    get_or (key_words number position offset (relink r c ks) ++ t) i 0 ≡ r (c + i / 3)
relink_key r c number position offset [] t i h first = absurd (omega arith)
relink_key r c number position offset (k ∷ ks) t zero h first = ap r (omega arith)
relink_key r c number position offset (k ∷ ks) t (suc zero) h first = absurd (omega arith)
relink_key r c number position offset (k ∷ ks) t (suc (suc zero)) h first = absurd (omega arith)
relink_key r c number position offset (k ∷ ks) t (suc (suc (suc i))) h first =
    relink_key r (c + 1) number (position + 1) (offset + length (value_bytes k.value)) ks t i (omega arith)
    (omega arith) ∙ ap r (omega arith)

-- ---- records

-- what follows the key entries
abbrev pub after_keys : BodyParts → List ℕ
after_keys p =
    words_of_bytes (values_of p.keys) ++
    (words_of_bytes p.payload ++ replicate (body_lines p * 4 - (1 + length (words_after_head p))) 0)

-- a record is its header, its key entries and what follows them
pub body_parted : (p : BodyParts) → body_words p ≡ body_header p ∷ (key_words p.number 0 0 p.keys ++ after_keys p)
unfolding body_words
body_parted p = simp append_assoc

-- as many words
relinked_length : (r : ℕ → ℕ) (p : BodyParts) → length (words_after_head (relinked r p)) ≡ length (words_after_head p)
relinked_length r p =
    length-words_after_head (relinked r p)
    ∙ rw (length-relink r 0 p.keys, values_of-relink r 0 p.keys) (sym (length-words_after_head p))

-- as many lines
pub relinked_lines : (r : ℕ → ℕ) (p : BodyParts) → body_lines (relinked r p) ≡ body_lines p
relinked_lines r p = ap (λ n. (1 + n + 3) / 4) (relinked_length r p)

-- the same header
pub relinked_header : (r : ℕ → ℕ) (p : BodyParts) → body_header (relinked r p) ≡ body_header p
relinked_header r p =
    ap (λ lines.
    header_word lines (form_code p.form) (length (relink r 0 p.keys)) p.lane p.version (length p.payload))
    (relinked_lines r p)
    ∙ ap (λ keys. header_word (body_lines p) (form_code p.form) keys p.lane p.version (length p.payload))
    (length-relink r 0 p.keys)

-- the same after the key entries
relinked_after : (r : ℕ → ℕ) (p : BodyParts) → after_keys (relinked r p) ≡ after_keys p
relinked_after r p =
    ap (λ n. words_of_bytes (values_of (relink r 0 p.keys)) ++
    (words_of_bytes p.payload ++ replicate ((1 + n + 3) / 4 * 4 - (1 + n)) 0)) (relinked_length r p)
    ∙ ap (λ b.
    words_of_bytes b ++
    (words_of_bytes p.payload ++ replicate (body_lines p * 4 - (1 + length (words_after_head p))) 0))
    (values_of-relink r 0 p.keys)

-- as proper
pub relinked_proper : (r : ℕ → ℕ) (p : BodyParts) → IsProper p → IsProper (relinked r p)
relinked_proper r p h =
    record {
      some_lane = h.some_lane;
      lane = h.lane;
      version = h.version;
      number = h.number;
      few = subst (λ n. n ≤ 256) (sym (length-relink r 0 p.keys)) h.few;
      keys = AreProperKeys-relink r 0 0 p.keys h.keys;
      short = h.short;
      text = h.text;
    }

-- the words of a relinked record, with the parts that stay as they are in the record
relinked_parted : (r : ℕ → ℕ) (p : BodyParts) →
    body_words (relinked r p) ≡ body_header p ∷ (key_words p.number 0 0 (relink r 0 p.keys) ++ after_keys p)
relinked_parted r p =
    body_parted (relinked r p)
    ∙ ap (λ head. head ∷ (key_words p.number 0 0 (relink r 0 p.keys) ++ after_keys (relinked r p)))
    (relinked_header r p)
    ∙ ap (λ rest. body_header p ∷ (key_words p.number 0 0 (relink r 0 p.keys) ++ rest)) (relinked_after r p)

-- a word that is the first of no key entry stays
pub relinked_at : (r : ℕ → ℕ) (p : BodyParts) (i : ℕ) → ¬ IsKeyWord (length p.keys) i →
    get_or (body_words (relinked r p)) i 0 ≡ get_or (body_words p) i 0
relinked_at r p zero h = ap (λ b. get_or b 0 0) (relinked_parted r p) ∙ sym (ap (λ b. get_or b 0 0) (body_parted p))
relinked_at r p (suc i) h =
    ap (λ b. get_or b (suc i) 0) (relinked_parted r p)
    ∙ relink_at r 0 p.number 0 0 p.keys (after_keys p) i (λ key. h (omega arith, omega arith))
    ∙ sym (ap (λ b. get_or b (suc i) 0) (body_parted p))

-- the first word of a key entry is its previous node
pub relinked_key : (r : ℕ → ℕ) (p : BodyParts) (i : ℕ) → IsKeyWord (length p.keys) i →
    get_or (body_words (relinked r p)) i 0 ≡ r (i / 3)
relinked_key r p zero key = absurd (omega arith)
relinked_key r p (suc i) key =
    ap (λ b. get_or b (suc i) 0) (relinked_parted r p)
    ∙ relink_key r 0 p.number 0 0 p.keys (after_keys p) i (omega arith) (omega arith)
    ∙ ap r (omega arith)

-- unlinked parts are parts whose previous nodes are 0
pub unlinked_is : (p : BodyParts) → relinked (λ _. 0) p ≡ unlinked p
unlinked_is p = ap (λ keys. record p { keys = keys }) (relink-none 0 p.keys)
