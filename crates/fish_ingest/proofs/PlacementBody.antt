-- The words of a payload, once they have a number, are a record of the rule.
use Rattle.std.proofs.Common.{◌≡◌, ℕ, ◌+◌, ◌*◌, ◌/◌, List, length, map, true, refl, sym, ap, ◌∙◌, subst}
use Rattle.fish_layout.proofs.Links.{unlink-unlinked}
use Rattle.fish_layout.proofs.Outlines.{body_length}
use Rattle.fish_layout.proofs.Sizes.{length-words_after_head}
use Rattle.fish_layout.proofs.Spelled.{spelled_body}
use Rattle.fish_layout.specs.Body.{IsBody, body_lines}
use Rattle.fish_layout.specs.Cleared.{AreUnlinked, Spells, body_of, unlinked}
use Rattle.fish_layout.specs.declared.parts.BodyParts.{BodyParts}
use Rattle.fish_psf.specs.Keys.{keys_for}
use Rattle.fish_psf.specs.Records.{fields_of_payload, is_record}
use Rattle.fish_psf.specs.declared.key.ActiveDef.{ActiveDef}
use Rattle.fish_rule.specs.Keys.{HasKeys, IsKeyed, text_of}
use Rattle.fish_ingest.specs.Preparation.{ArePartsFor, IsBodyFor}
use Rattle.fish_ingest.specs.declared.preparation.Origin.{Origin}

-- the same parts with another number
abbrev pub numbered : ℕ → BodyParts → BodyParts
numbered n p = record p { number = n }

-- they take as many lines
pub numbered_lines : (n : ℕ) (p : BodyParts) → body_lines (numbered n p) ≡ body_lines p
numbered_lines n p =
    ap (λ size. (1 + size + 3) / 4) (length-words_after_head (numbered n p) ∙ sym (length-words_after_head p))

-- parts whose entries have no previous nodes stay when these are taken away
same_parts : (p : BodyParts) → AreUnlinked p.keys → unlinked p ≡ p
same_parts p h = ap (λ keys. record p { keys = keys }) (unlink-unlinked p.keys h)

-- the words of a payload fill their lines
pub body_fills : {defs : List ActiveDef} {origin : Origin} {payload words : List ℕ}
    → (b : IsBodyFor defs origin payload words) → length words ≡ body_lines b.0 * 4
body_fills b = body_length b.2

-- with a number they fill as many
pub numbered_fills : (n : ℕ) (p : BodyParts) {words : List ℕ} → IsBody (numbered n p) words
    → length words ≡ body_lines p * 4
numbered_fills n p is = body_length is ∙ ap (λ lines. lines * 4) (numbered_lines n p)

-- a payload that is a record is one of the form in its parts
reads_parts : {defs : List ActiveDef} {origin : Origin} {payload : List ℕ} {p : BodyParts}
    → ArePartsFor defs origin payload p → is_record p.form p.payload ≡ true
reads_parts {defs} {origin} {payload} {p} h =
    ap (λ form. is_record form p.payload) h.form_is ∙ ap (is_record origin.form) h.payload_is ∙ h.reads

-- the keys that definitions give for a payload are those of the version where they are active
pub has_keys : {defs : List ActiveDef} {origin : Origin} {payload : List ℕ} {p : BodyParts}
    {active : ℕ → List (ℕ × List ℕ) → Type 0} (n : ℕ) → ArePartsFor defs origin payload p
    → active origin.version (map text_of defs) → HasKeys active (numbered n p)
has_keys {defs} {origin} {payload} {p} {active} n h are =
    record {
      defs = defs;
      are = subst (λ v. active v (map text_of defs)) (sym h.version_is) are;
      written = h.written;
      keys = h.keys ∙ ap (λ form. keys_for (fields_of_payload form payload) defs) (sym h.form_is)
          ∙ ap (λ b. keys_for (fields_of_payload p.form b) defs) (sym h.payload_is);
    }

-- the words of a payload with a number are a record of its version, with the keys of that version
pub keyed_of_body : {defs : List ActiveDef} {origin : Origin} {payload words : List ℕ}
    {active : ℕ → List (ℕ × List ℕ) → Type 0} (n : ℕ) (new : List ℕ) (b : IsBodyFor defs origin payload words)
    → IsBody (numbered n b.0) new → active origin.version (map text_of defs)
    → IsKeyed active origin.version origin.lane n (body_lines b.0) (body_of new)
keyed_of_body {defs} {active = active} n new b is are =
    let p : BodyParts = b.0 in
    let h = b.1 in (
      numbered n p,
      record {
        record_of = record {
          spells = subst (λ q. Spells q (body_of new)) (same_parts (numbered n p) h.unlinked) (spelled_body new is);
          lane_is = h.lane_is;
          number_is = refl;
          lines_is = numbered_lines n p;
          reads = reads_parts h;
        };
        version_is = h.version_is;
        keys = has_keys {active = active} n h are;
      },
    )
