-- What the words of a record are that is made from a payload, and what the steps towards them say. What private clauses
-- need of it.
use Rattle.std.specs.Prelude.{ℕ, ◌≡◌, ◌≤◌, List, ◌++◌, All, length, map, ⊤}
use Rattle.fish_ingest.specs.Preparation.{IsPreparedFor}
use Rattle.fish_ingest.specs.declared.preparation.Origin.{Origin}
use Rattle.fish_ingest.specs.declared.preparation.Prepared.{Prepared}
use Rattle.fish_layout.specs.Body.{IsProperValue}
use Rattle.fish_layout.specs.declared.parts.KeyPart.{KeyPart}
use Rattle.fish_psf.specs.Eval.{Fields}
use Rattle.fish_psf.specs.Keys.{keys_for, value_under}
use Rattle.fish_psf.specs.declared.key.ActiveDef.{ActiveDef}
use Rattle.fish_rule.specs.Keys.{property, text_of}
use Rattle.fish_rule.specs.Registry.{KnowsActive}
use Rattle.fish_rule.specs.declared.view.View.{View}
use Rattle.fish_value.specs.declared.field.Form.{Form}
use Rattle.fish_value.specs.declared.value.Value.TheVariants as kind
use Rattle.fish_value.specs.declared.value.Value.{Value}

-- ---- its key entries

-- a text among values has at most 256 bytes
abbrev pub IsShortValue : Value → Type 0
IsShortValue (kind.Bool b) = ⊤
IsShortValue (kind.Int n) = ⊤
IsShortValue (kind.Text s) = length s ≤ 256

-- a key entry with no previous node, whose value may stand in a record
pub record IsKey (key : KeyPart) : Type 0 where
  pub unlinked : key.prev ≡ 0
  pub proper : IsProperValue key.value

-- after the entries came one for each of these values, under the id, that may stand in a record
pub record AreMore (id : ℕ) (vs : List Value) (before after : List KeyPart) : Type 0 where
  pub more : List KeyPart
  pub behind : after ≡ before ++ more
  pub values : map property more ≡ map (value_under id) vs
  pub entries : All IsKey more

-- there is an entry for each value of each definition, in the order of the definitions
pub record AreEntriesFor (fields : Fields) (defs : List ActiveDef) (keys : List KeyPart) : Type 0 where
  pub values : map property keys ≡ keys_for fields defs
  pub entries : All IsKey keys

-- ---- the record

-- what was prepared are its words and its keys
pub record HasPrepared (v : View) (version : ℕ) (form : Form) (payload : List ℕ) (prepared : Prepared) : Type 0 where
  pub defs : List ActiveDef
  pub origin : Origin
  pub made : IsPreparedFor defs origin payload prepared
  pub form_is : origin.form ≡ form
  pub lane_is : origin.lane ≡ v.lane
  pub version_is : origin.version ≡ version
  pub active : KnowsActive v.about v.learned version (map text_of defs)
