-- The one candidate for the parts of a record, but for the number of a record with no key.
use Rattle.std.proofs.Common.{◌≡◌, ℕ, ◌+◌, ◌-◌, ◌*◌, ◌/◌, ◌^◌, ◌<◌}
use Rattle.std.proofs.Common.{List, [], ◌∷◌, ◌++◌, length, replicate, refl, sym, ap, ◌∙◌, subst, arith}
use Rattle.fish_layout.specs.Body.{IsBody, body_words, key_words, values_of}
use Rattle.fish_layout.specs.Bytes.{words_of_bytes}
use Rattle.fish_layout.specs.Header.{form_code, header_word}
use Rattle.fish_layout.specs.declared.parts.BodyParts.{BodyParts}
use Rattle.fish_layout.specs.declared.parts.KeyPart.{KeyPart}

-- without keys a number stands nowhere
key_words-number : (m n : ℕ) (ks : List KeyPart) → (0 < length ks → m ≡ n) → key_words m 0 0 ks ≡ key_words n 0 0 ks
key_words-number m n [] h = refl
key_words-number m n (k ∷ ks) h = ap (λ x. key_words x 0 0 (k ∷ ks)) (h (omega arith))

-- the words of a record, from those of its key entries
abbrev words_with : BodyParts → List ℕ → List ℕ
words_with p entries =
    let behind = entries ++ words_of_bytes (values_of p.keys) ++ words_of_bytes p.payload in
    let lines = (1 + length behind + 3) / 4 in
    header_word lines (form_code p.form) (length p.keys) p.lane p.version (length p.payload)
    ∷ behind ++ replicate (lines * 4 - (1 + length behind)) 0

-- a record's words are those
body_words-with : (p : BodyParts) → body_words p ≡ words_with p (key_words p.number 0 0 p.keys)
unfolding body_words
body_words-with p = refl

-- a record with another number, where it stands nowhere, has the same words
body_words-number : (p : BodyParts) (m : ℕ) → (0 < length p.keys → m ≡ p.number) →
    body_words (record p { number = m }) ≡ body_words p
body_words-number p m h =
    body_words-with (record p { number = m }) ∙ ap (words_with p) (key_words-number m p.number p.keys h)
    ∙ sym (body_words-with p)

-- words are also a record with another number, where it stands nowhere
IsBody-number : {p : BodyParts} {ws : List ℕ} (m : ℕ) → IsBody p ws → m < 2 ^ 28 →
    (0 < length p.keys → m ≡ p.number) → IsBody (record p { number = m }) ws
IsBody-number {p} {ws} m h fits same =
    record {
      proper = record {
        some_lane = h.proper.some_lane;
        lane = h.proper.lane;
        version = h.proper.version;
        number = fits;
        few = h.proper.few;
        keys = h.proper.keys;
        short = h.proper.short;
        text = h.proper.text;
      };
      is = h.is ∙ sym (body_words-number p m same);
    }

-- parts with the same fields, but for a number that stands nowhere, are also the record's
pub candidate : {p : BodyParts} {ws : List ℕ} (c : BodyParts) → IsBody p ws → c.form ≡ p.form → c.lane ≡ p.lane →
    c.version ≡ p.version → c.keys ≡ p.keys →
    c.payload ≡ p.payload → c.number < 2 ^ 28 → (0 < length p.keys → c.number ≡ p.number) → IsBody c ws
candidate {p} {ws} c h form lane version keys payload fits number =
    let same : record p { number = c.number } ≡ c =
    ap (λ x. record p { number = c.number; form = x }) (sym form)
    ∙ ap (λ x. record p { number = c.number; form = c.form; lane = x }) (sym lane)
    ∙ ap (λ x. record p { number = c.number; form = c.form; lane = c.lane; version = x }) (sym version)
    ∙ ap (λ x. record p { number = c.number; form = c.form; lane = c.lane; version = c.version; keys = x }) (sym keys)
    ∙ ap (λ x. record c { payload = x }) (sym payload) in
    subst (λ x. IsBody x ws) same (IsBody-number c.number h fits number)
