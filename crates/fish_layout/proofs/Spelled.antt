-- What the words of a record say of its parts.
use Rattle.std.proofs.Common.{◌≡◌, ℕ, ◌+◌, ◌-◌, ◌*◌, ◌%◌, ◌<◌, ◌≤◌}
use Rattle.std.proofs.Common.{List, length, get_or, refl, ap, sym, ◌∙◌, subst, arith}
use Rattle.std.proofs.lemmas.List.{ext_get_or, get_or_past}
use Rattle.std.proofs.Math.Decide.{ℕ_discrete, dec_le}
use Rattle.fish_layout.specs.Body.{IsBody, IsProper, body_header, body_lines, body_words}
use Rattle.fish_layout.specs.Cleared.{IsKeyWord, Spells, body_of, cleared, unlinked}
use Rattle.fish_layout.specs.Header.{form_code, form_of, keys_of, lane_of, length_of, lines_of}
use Rattle.fish_layout.specs.within.Header.{header_version}
use Rattle.fish_layout.specs.declared.parts.BodyParts.{BodyParts}
use Rattle.fish_layout.proofs.Fields.{FitHeader, form_code_fits, form_of-header, keys_of-header}
use Rattle.fish_layout.proofs.Fields.{lane_of-header, length_of-header, lines_of-header, header_version-header}
use Rattle.fish_layout.proofs.Clearing.{cleared_at, cleared_behind, cleared_head, cleared_key}
use Rattle.fish_layout.proofs.Links.{AreUnlinked-unlink, relink-none, relink-relink, relinked}
use Rattle.fish_layout.proofs.Links.{relinked_at, relinked_key, relinked_lines, relinked_proper}
use Rattle.fish_layout.proofs.Links.{unlink-unlinked, unlinked_is}
use Rattle.fish_layout.proofs.Sizes.{few_keys_of, length-body_words}
pub use Rattle.fish_layout.proofs.Sizes.{few_lines, roomy, some_lines}

-- the header of proper parts has room for each of its fields
pub header_fits : (p : BodyParts) → IsProper p →
    FitHeader (body_lines p) (form_code p.form) (length p.keys) p.lane p.version (length p.payload)
header_fits p h =
    record {
      lines_fit = omega (arith, few_lines p h);
      form_fit = omega (arith, form_code_fits p.form);
      keys_fit = omega (arith, few_keys_of h);
      lane_fit = omega (arith, h.lane);
      version_fit = omega (arith, h.version);
      length_fit = omega (arith, h.short);
    }

-- the first word of a record is its header
pub body_head : (p : BodyParts) → get_or (body_words p) 0 0 ≡ body_header p
unfolding body_words
body_head p = refl

-- the first word that a function spells is the header
pub spelled_head : {p : BodyParts} {e : ℕ → ℕ} → Spells p e → e 0 ≡ body_header p
spelled_head {p} {e} s = s.words 0 ∙ body_head p

-- the lines in a record's first word are its own
pub spelled_lines : {p : BodyParts} {e : ℕ → ℕ} → Spells p e → lines_of (e 0) ≡ body_lines p
spelled_lines {p} {e} s = ap lines_of (spelled_head s) ∙ lines_of-header (header_fits p s.proper)

-- the number of key entries in a record's first word is its own
pub spelled_keys : {p : BodyParts} {e : ℕ → ℕ} → Spells p e → keys_of (e 0) ≡ length p.keys
spelled_keys {p} {e} s = ap keys_of (spelled_head s) ∙ keys_of-header (header_fits p s.proper)

-- ---- bodies and what they spell

-- a record's words, cleared, are those of its parts with no previous node
cleared_body_at : (p : BodyParts) → IsProper p → (i : ℕ) →
    body_of (body_words p) i ≡ get_or (body_words (relinked (λ _. 0) p)) i 0
cleared_body_at p h i =
    let f : ℕ → ℕ = λ j. get_or (body_words p) j 0 in
    let lines : lines_of (f 0) ≡ body_lines p = ap lines_of (body_head p) ∙ lines_of-header (header_fits p h) in
    let keys : keys_of (f 0) ≡ length p.keys = ap keys_of (body_head p) ∙ keys_of-header (header_fits p h) in
    let stays : i ≤ lines_of (f 0) * 4 - 1 → ¬ IsKeyWord (keys_of (f 0)) i →
    cleared f i ≡ get_or (body_words (relinked (λ _. 0) p)) i 0 =
    λ within other. cleared_at f i within other
    ∙ sym (relinked_at (λ _. 0) p i (subst (λ n. ¬ IsKeyWord n i) keys other)) in
    elim (dec_le i (lines_of (f 0) * 4 - 1)) [
      | yes within ↦ (elim (dec_le i (3 * keys_of (f 0))) [
        | yes entry ↦ (elim (ℕ_discrete (i % 3) 1) [
          | yes first ↦ cleared_key f i within (entry, first)
              ∙ sym (relinked_key (λ _. 0) p i (subst (λ n. IsKeyWord n i) keys (entry, first)))
          | no other ↦ stays within (λ key. other key.1)
        ])
        | no past ↦ stays within (λ key. past key.0)
      ])
      | no behind ↦
          cleared_behind f i (omega arith)
          ∙ sym (get_or_past (body_words (relinked (λ _. 0) p)) i 0
          (omega (arith, length-body_words (relinked (λ _. 0) p), relinked_lines (λ _. 0) p)))
    ]

-- a record spells its parts, with no previous node
pub spelled_body : {p : BodyParts} (ws : List ℕ) → IsBody p ws → Spells (unlinked p) (body_of ws)
spelled_body {p} ws h =
    let same : (i : ℕ) → body_of ws i ≡ get_or (body_words (unlinked p)) i 0 =
    λ i. ap (λ b. body_of b i) h.is ∙ cleared_body_at p h.proper i
    ∙ ap (λ q. get_or (body_words q) i 0) (unlinked_is p) in
    record {
      proper = subst IsProper (unlinked_is p) (relinked_proper (λ _. 0) p h.proper);
      unlinked = AreUnlinked-unlink p.keys;
      words = same;
    }

-- words that spell parts are a record of these parts but for the previous nodes
pub body_spelled : {p : BodyParts} (ws : List ℕ) → length ws ≡ body_lines p * 4 → Spells p (body_of ws) →
    (q : BodyParts) × IsBody q ws × (unlinked q ≡ p)
body_spelled {p} ws size s =
    let f : ℕ → ℕ = λ j. get_or ws j 0 in
    let r : ℕ → ℕ = λ c. get_or ws (1 + 3 * c) 0 in
    let q : BodyParts = relinked r p in
    let lines : lines_of (f 0) ≡ body_lines p = ap lines_of (sym (cleared_head f)) ∙ spelled_lines s in
    let keys : keys_of (f 0) ≡ length p.keys = ap keys_of (sym (cleared_head f)) ∙ spelled_keys s in
    let stays : (i : ℕ) → i < length ws → ¬ IsKeyWord (length p.keys) i → f i ≡ get_or (body_words q) i 0 =
    λ i within other.
    sym (cleared_at f i (omega arith) (subst (λ n. ¬ IsKeyWord n i) (sym keys) other)) ∙ s.words i
    ∙ sym (relinked_at r p i other) in
    let same : (i : ℕ) → i < length ws → f i ≡ get_or (body_words q) i 0 =
    λ i within. elim (dec_le i (3 * length p.keys)) [
      | yes entry ↦ (elim (ℕ_discrete (i % 3) 1) [
        | yes first ↦ ap f (omega arith) ∙ sym (relinked_key r p i (entry, first))
        | no other ↦ stays i within (λ key. other key.1)
      ])
      | no past ↦ stays i within (λ key. past key.0)
    ] in
    let body : IsBody q ws =
    record {
      proper = relinked_proper r p s.proper;
      is = ext_get_or 0 ws (body_words q) (omega (arith, length-body_words q, relinked_lines r p)) same;
    } in
    let back : unlinked q ≡ p =
    sym (unlinked_is q)
    ∙ ap (λ keys. record p { keys = keys })
    (relink-relink (λ _. 0) r 0 p.keys ∙ relink-none 0 p.keys ∙ unlink-unlinked p.keys s.unlinked) in
    (q, body, back)

-- the header's word says the fields of the parts
pub record SaysParts (p : BodyParts) (w : ℕ) : Type 0 where
  pub lines : lines_of w ≡ body_lines p
  pub form : form_of w ≡ form_code p.form
  pub keys : keys_of w ≡ length p.keys
  pub lane : lane_of w ≡ p.lane
  pub version : header_version w ≡ p.version
  pub length : length_of w ≡ length p.payload

-- a record's first word says the fields of its parts
pub body_says : {p : BodyParts} {ws : List ℕ} → IsBody p ws → SaysParts p (get_or ws 0 0)
body_says {p} {ws} h =
    let head : get_or ws 0 0 ≡ body_header p = ap (λ b. get_or b 0 0) h.is ∙ body_head p in
    record {
      lines = ap lines_of head ∙ lines_of-header (header_fits p h.proper);
      form = ap form_of head ∙ form_of-header (header_fits p h.proper);
      keys = ap keys_of head ∙ keys_of-header (header_fits p h.proper);
      lane = ap lane_of head ∙ lane_of-header (header_fits p h.proper);
      version = ap header_version head ∙ header_version-header (header_fits p h.proper);
      length = ap length_of head ∙ length_of-header (header_fits p h.proper);
    }
