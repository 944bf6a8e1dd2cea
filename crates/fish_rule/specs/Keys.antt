-- Which key entries a record has: the values that the active definitions give for it.
use Rattle.std.specs.Prelude.{ℕ, ◌≡◌, List, All, map}
use Rattle.fish_lang.specs.Canonical.{definition_text}
use Rattle.fish_lang.specs.Definition.{definition_of}
use Rattle.fish_lang.specs.Language.{IsAccepted}
use Rattle.fish_layout.specs.declared.parts.BodyParts.{BodyParts}
use Rattle.fish_layout.specs.declared.parts.KeyPart.{KeyPart}
use Rattle.fish_psf.specs.Keys.{keys_for}
use Rattle.fish_psf.specs.Records.{fields_of_payload}
use Rattle.fish_psf.specs.declared.key.ActiveDef.{ActiveDef}
use Rattle.fish_psf.specs.declared.key.KeyValue.{KeyValue}
use Rattle.fish_rule.specs.Regions.{IsRecordOf}

-- a definition under its id, as its row keeps it
abbrev pub text_of : ActiveDef → ℕ × List ℕ
text_of d = (d.id, definition_text (definition_of d.def))

-- the definition is what its text is read as
abbrev pub IsWritten : ActiveDef → Type 0
IsWritten d = IsAccepted (definition_text (definition_of d.def)) (definition_of d.def)

-- a key without the place of its previous entry
abbrev pub property : KeyPart → KeyValue
property key = record { id = key.id; value = key.value }

-- the record has a key entry for each definition that is active at its version and gives a value for its payload,
-- and no other; `active` says which texts are those of a version's active definitions, and each definition is what its
-- text is read as
pub record HasKeys (active : ℕ → List (ℕ × List ℕ) → Type 0) (p : BodyParts) : Type 0 where
  pub defs : List ActiveDef
  pub are : active p.version (map text_of defs)
  pub written : All IsWritten defs
  pub keys : map property p.keys ≡ keys_for (fields_of_payload p.form p.payload) defs

-- e has the words of a record of this version, lane, number and lines, with the keys of that version
pub record IsKeyedOf (active : ℕ → List (ℕ × List ℕ) → Type 0) (version lane number lines : ℕ) (e : ℕ → ℕ)
    (p : BodyParts) : Type 0 where
  pub record_of : IsRecordOf lane number lines e p
  pub version_is : p.version ≡ version
  pub keys : HasKeys active p

-- some record
abbrev pub IsKeyed : (ℕ → List (ℕ × List ℕ) → Type 0) → ℕ → ℕ → ℕ → ℕ → (ℕ → ℕ) → Type 0
IsKeyed active version lane number lines e = (p : BodyParts) × IsKeyedOf active version lane number lines e p
