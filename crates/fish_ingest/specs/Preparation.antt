-- What the words of a record are that is made from a payload, and what the steps towards them say.
use Rattle.std.specs.Prelude.{ℕ, ◌≡◌, ◌≤◌, ◌<◌, List, All, IsTrue, length, map, true}
use Rattle.std.specs.List.Sorted.{IsStrictlyIncreasing}
use Rattle.fish_catalog.specs.Limits.{most_active}
use Rattle.fish_layout.specs.Body.{IsBody}
use Rattle.fish_layout.specs.Cleared.{AreUnlinked}
use Rattle.fish_layout.specs.declared.parts.BodyParts.{BodyParts}
use Rattle.fish_psf.specs.Eval.{Fields}
use Rattle.fish_psf.specs.Keys.{keys_for}
use Rattle.fish_psf.specs.Records.{fields_of_payload, is_record}
use Rattle.fish_psf.specs.declared.key.ActiveDef.{ActiveDef}
use Rattle.fish_rule.specs.Keys.{IsWritten, property, text_of}
use Rattle.fish_rule.specs.Registry.{KnowsActive}
use Rattle.fish_rule.specs.declared.view.View.{View}
use Rattle.fish_value.specs.declared.field.Form.{Form}
use Rattle.fish_ingest.specs.declared.preparation.Origin.{Origin}
use Rattle.fish_ingest.specs.declared.preparation.Prepared.{Prepared}

-- ---- what a record is made of

-- the id of an active definition
abbrev pub id_of : ActiveDef → ℕ
id_of d = d.id

-- the definitions, of which there are few, stand in the order of their ids, which are below 256, and are what their
-- texts are read as
pub record AreDefs (defs : List ActiveDef) : Type 0 where
  pub few : length defs ≤ most_active
  pub ascending : IsStrictlyIncreasing (map id_of defs)
  pub below : All (λ d. d.id < 256) defs
  pub written : All IsWritten defs

-- a lane is one of 1 to 16, a version at most 512
pub record IsOrigin (origin : Origin) : Type 0 where
  pub some_lane : 1 ≤ origin.lane
  pub lane : origin.lane ≤ 16
  pub version : origin.version ≤ 512

-- these fields were read of a payload, which is a record of its form
pub record IsPayloadRead (form : Form) (payload : List ℕ) (found : Fields) : Type 0 where
  pub fields : found ≡ fields_of_payload form payload
  pub accepted : is_record form payload ≡ true

-- ---- the record

-- the parts of the record that a payload is: of this origin, with number 0, the payload itself, and exactly the
-- keys that the definitions give for it, with no previous nodes; each definition is what its text is read as
pub record ArePartsFor (defs : List ActiveDef) (origin : Origin) (payload : List ℕ) (p : BodyParts) : Type 0 where
  pub form_is : p.form ≡ origin.form
  pub lane_is : p.lane ≡ origin.lane
  pub version_is : p.version ≡ origin.version
  pub number_is : p.number ≡ 0
  pub payload_is : p.payload ≡ payload
  pub reads : IsTrue (is_record origin.form payload)
  pub unlinked : AreUnlinked p.keys
  pub keys : map property p.keys ≡ keys_for (fields_of_payload origin.form payload) defs
  pub written : All IsWritten defs

-- the words are those of the record that a payload is
abbrev pub IsBodyFor : List ActiveDef → Origin → List ℕ → List ℕ → Type 0
IsBodyFor defs origin payload words = (p : BodyParts) × ArePartsFor defs origin payload p × IsBody p words

-- what was prepared are the words of the record that a payload is, and its keys
abbrev pub IsPreparedFor : List ActiveDef → Origin → List ℕ → Prepared → Type 0
IsPreparedFor defs origin payload prepared =
    (b : IsBodyFor defs origin payload prepared.body) × (prepared.keys ≡ b.0.keys)

-- the record that a payload is, of the pass's lane and of this version, with the keys of the definitions that the
-- pass knows to be active there
pub record IsRecordFor (v : View) (form : Form) (payload : List ℕ) (p : BodyParts) : Type 0 where
  pub defs : List ActiveDef
  pub origin : Origin
  pub parts : ArePartsFor defs origin payload p
  pub form_is : origin.form ≡ form
  pub lane_is : origin.lane ≡ v.lane
  pub active : KnowsActive v.about v.learned origin.version (map text_of defs)
