-- The parts of a record that were put together of a payload, which is a text.
use Rattle.std.proofs.Common.{Bool, List, None, Option, Some, ap, arith, false, length, refl, true, ℕ, ◌∙◌, ◌≡◌, ◌≤◌}
use Rattle.std.proofs.lemmas.Bool.Decides.{nat_tests}
use Rattle.std.proofs.lemmas.Str.{IsUtf8-from_is_utf8}
use Rattle.std.specs.Prelude.{IsUtf8, if◌then◌else◌, is_some, nat_le}
use Rattle.std.specs.Str.{is_utf8}
use Rattle.fish_csv.specs.Reading.{row_of, row_reading}
use Rattle.fish_value.specs.Limits.{longest_payload}
use Rattle.fish_ingest.proofs.PreparationKeys.{keys_few, keys_proper, keys_unlinked}
use Rattle.fish_ingest.specs.Preparation.{AreDefs}
use Rattle.fish_ingest.specs.within.Preparation.{AreEntriesFor}
use Rattle.fish_ingest.specs.Preparation.{ArePartsFor, IsBodyFor, IsOrigin, IsPayloadRead}
use Rattle.fish_ingest.specs.declared.preparation.Origin.{Origin}
use Rattle.fish_json.proofs.Records.{record_is_text}
use Rattle.fish_json.specs.Reading.{record_of}
use Rattle.fish_layout.specs.Body.{IsProper, body_words, parts_of}
use Rattle.fish_layout.specs.declared.parts.BodyHead.{BodyHead}
use Rattle.fish_layout.specs.declared.parts.KeyPart.{KeyPart}
use Rattle.fish_psf.specs.Eval.{Fields}
use Rattle.fish_psf.specs.Keys.{keys_for}
use Rattle.fish_psf.specs.Records.{is_record}
use Rattle.fish_psf.specs.declared.key.ActiveDef.{ActiveDef}
use Rattle.fish_value.specs.declared.field.Form.TheVariants.{Csv, Json}
use Rattle.fish_value.specs.declared.field.Form.{Form}
use Rattle.serde_json.specs.Data.{Data}

-- ---- payloads

-- an object in JSON is a text
object_is_text : (b : List ℕ) (o : Option Data) → record_of b ≡ o → is_some o ≡ true → IsUtf8 b
object_is_text b None e h = absurd cc
object_is_text b (Some d) e h = record_is_text b d e

-- what is tested to be short, and then to be a text, is both
tested : {X : Type 0} (short text : Bool) (o : Option X)
    → is_some (if short then (if text then o else None) else None) ≡ true → (short ≡ true) × (text ≡ true)
tested true true o h = (refl, refl)
tested true false o h = absurd cc
tested false text o h = absurd cc

-- what is tested to be short, is
tested_short : {X : Type 0} (short : Bool) (o : Option X)
    → is_some (if short then o else None) ≡ true → short ≡ true
tested_short true o h = refl
tested_short false o h = absurd cc

-- a length that is tested to be within the limit, is
within : (b : List ℕ) → nat_le (length b) longest_payload ≡ true → length b ≤ 524288
within b h = grind (arith, nat_tests)

-- a row in CSV is a text
row_is_text : (b : List ℕ) → is_some (row_of b) ≡ true → IsUtf8 b
unfolding row_of row_reading
row_is_text b h = IsUtf8-from_is_utf8 b (tested (nat_le (length b) longest_payload) (is_utf8 b) _ h).1

-- a record of either form is a text
pub record_text : (form : Form) (b : List ℕ) → is_record form b ≡ true → IsUtf8 b
unfolding is_record
record_text Json b h = object_is_text b (record_of b) refl h
record_text Csv b h = row_is_text b h

-- and has at most 524,288 bytes
pub record_short : (form : Form) (b : List ℕ) → is_record form b ≡ true → length b ≤ 524288
unfolding is_record record_of row_of
record_short Json b h = within b (tested_short (nat_le (length b) longest_payload) _ h)
record_short Csv b h = within b (tested_short (nat_le (length b) longest_payload) _ h)

-- ---- parts

-- what a record of this origin says of itself before it has a number
abbrev pub head_of : Origin → BodyHead
head_of origin = record { form = origin.form; lane = origin.lane; version = origin.version; number = 0 }

-- the key entries of a record that was read, and its payload, are proper parts
pub parts_proper : {defs : List ActiveDef} {origin : Origin} {payload : List ℕ} {found : Fields} {keys : List KeyPart}
    → AreDefs defs → IsOrigin origin → IsPayloadRead origin.form payload found → AreEntriesFor found defs keys
    → IsProper (parts_of (head_of origin) keys payload)
parts_proper {defs} {origin} {payload} {found} {keys} are from read made =
    record {
      some_lane = from.some_lane;
      lane = from.lane;
      version = from.version;
      number = omega arith;
      few = keys_few found defs keys are made;
      keys = keys_proper found defs keys are made;
      short = record_short origin.form payload read.accepted;
      text = record_text origin.form payload read.accepted;
    }

-- and their words are those of the payload
unfoldable pub body_for : {defs : List ActiveDef} {origin : Origin} {payload : List ℕ} {found : Fields}
    {keys : List KeyPart} {words : List ℕ}
    → AreDefs defs → IsOrigin origin → IsPayloadRead origin.form payload found → AreEntriesFor found defs keys
    → words ≡ body_words (parts_of (head_of origin) keys payload) → IsBodyFor defs origin payload words
body_for {defs} {origin} {payload} {found} {keys} {words} are from read made is =
    let parts : ArePartsFor defs origin payload (parts_of (head_of origin) keys payload) =
    record {
      form_is = refl;
      lane_is = refl;
      version_is = refl;
      number_is = refl;
      payload_is = refl;
      reads = read.accepted;
      unlinked = keys_unlinked keys made.entries;
      keys = made.values ∙ ap (λ fields. keys_for fields defs) read.fields;
      written = are.written;
    } in
    (parts_of (head_of origin) keys payload, parts, record { proper = parts_proper are from read made; is = is })
